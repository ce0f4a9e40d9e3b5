-- What is known of the declared hosts, told of a map that was changed.
use Rattle.std.proofs.Common.{◌≡◌, ℕ, rules, cond, refl, sym, ap, ◌∙◌, inr, nat_eq}
use Rattle.std.specs.BTreeMap.{BTreeMap, Updates, WritesThrough, get, is_at}
use Rattle.std.specs.FinMap as map
use Rattle.std.specs.FinMap.{gets, get-insert, same_map, nat_cmp-IsAntisymmetric}
use Rattle.std.specs.Cmp.{nat_cmp_total, eq_by_cmp_equiv}
use Rattle.std.specs.Map.{lookup}
use Rattle.std.specs.Option.{option_map}
use Rattle.std.specs.Ordering.{nat_cmp, eq_by_cmp}
use Rattle.std.specs.Prelude.{List, [], ◌∷◌, Option, Some, None, Result, Ok, Err, Bool, true, false, vec_items}
use Rattle.host.specs.declared.refusals.Refusal.{Refusal}
use Rattle.registry.specs.declared.any.AnyHost.{AnyHost}
use Rattle.registry.specs.Registries.{State, Known, known, known_each, state_of, with_change, Reopens, Opens}
use Rattle.registry.specs.declared.entries.Begun.{Begun}
use Rattle.registry.specs.declared.entries.Declared.{Declared}
use Rattle.registry.specs.declared.troubles.Trouble.{Trouble}

pub known_at : (es : List (ℕ × Declared)) (q : ℕ) → map.get (known_each es) q ≡ option_map known (lookup (is_at (nat_cmp q)) es)
known_at [] q = grind (gets, rules)
known_at (e ∷ es) q = grind (gets, rules, known_at es q)

pub found : (m : BTreeMap ℕ Declared) (k : ℕ) (d : Declared) → get nat_cmp m k ≡ Some d → map.get (known_each m.entries) k ≡ Some (known d)
found m k d is = known_at m.entries k ∙ ap (option_map known) is

chosen : (b : Bool) (d : Declared) (o : Option Declared) → option_map known (cond b (Some d) o) ≡ cond b (Some (known d)) (option_map known o)
chosen true d o = refl
chosen false d o = refl

-- an entry that is new, or has a new value
pub known_put : (m n : BTreeMap ℕ Declared) (k : ℕ) (d : Declared) → Updates nat_cmp m n k (Some d) → known_each n.entries ≡ map.insert (known_each m.entries) k (known d)
known_put m n k d u = same_map nat_cmp_total nat_cmp-IsAntisymmetric _ _ (λ q.
    known_at n.entries q ∙ ap (option_map known) (u.0 q) ∙ chosen (is_at (nat_cmp k) q) d _
    ∙ ap (λ b. cond b (Some (known d)) (option_map known (get nat_cmp m q))) ((eq_by_cmp_equiv nat_cmp_total).symm k q)
    ∙ ap (cond (eq_by_cmp nat_cmp q k) (Some (known d))) (sym (known_at m.entries q)) ∙ sym (get-insert nat_cmp_total (known_each m.entries) k (known d) q))

-- to insert what is there changes nothing
pub insert_same : (m : map.FinMap nat_cmp Known) (k : ℕ) (x : Known) → map.get m k ≡ Some x → map.insert m k x ≡ m
insert_same m k x e = same_map nat_cmp_total nat_cmp-IsAntisymmetric _ _ (λ q. get-insert nat_cmp_total m k x q ∙ there q)
  where
    there : (q : ℕ) → cond (eq_by_cmp nat_cmp q k) (Some x) (map.get m q) ≡ map.get m q
    there q = search (rules, gets, e)

pub written : (m n : BTreeMap ℕ Declared) (k : ℕ) (d d' : Declared) → get nat_cmp m k ≡ Some d → WritesThrough nat_cmp (nat_cmp k) m d' n
    → known_each n.entries ≡ map.insert (known_each m.entries) k (known d')
written m n k d d' is w = known_put m n k d' (search rules)

pub rewritten : (m n : BTreeMap ℕ Declared) (k : ℕ) (d d' : Declared) → get nat_cmp m k ≡ Some d → WritesThrough nat_cmp (nat_cmp k) m d' n → known d' ≡ known d
    → known_each n.entries ≡ known_each m.entries
rewritten m n k d d' is w same = written m n k d d' is w ∙ insert_same (known_each m.entries) k (known d') (found m k d is ∙ ap Some (sym same))

-- of two entries for one identifier the later stays
insert_again : (m : map.FinMap nat_cmp Known) (k : ℕ) (x y : Known) → map.insert (map.insert m k x) k y ≡ map.insert m k y
insert_again m k x y = same_map nat_cmp_total nat_cmp-IsAntisymmetric _ _ (λ q. grind (gets, rules))

-- entries for two identifiers may come in either order
insert_apart : (m : map.FinMap nat_cmp Known) (k l : ℕ) (x y : Known) → nat_eq k l ≡ false → map.insert (map.insert m k x) l y ≡ map.insert (map.insert m l y) k x
insert_apart m k l x y apart = same_map nat_cmp_total nat_cmp-IsAntisymmetric _ _ (λ q. grind (gets, rules))

-- whether that host is the one begun last
abbrev pub is_begun : Option Begun → ℕ → Bool
is_begun None k = false
is_begun (Some b) k = nat_eq b.id k

-- what is known of the host begun last, and of another
pub known_begun : (es : List (ℕ × Declared)) (b : Begun) → map.get (state_of es (Some b)).hosts b.id ≡ Some (known b.host)
known_begun es b = grind (gets, rules)

pub known_before : (es : List (ℕ × Declared)) (o : Option Begun) (k : ℕ) → is_begun o k ≡ false → map.get (state_of es o).hosts k ≡ option_map known (lookup (is_at (nat_cmp k)) es)
known_before es None k another = known_at es k
known_before es (Some b) k another = grind (gets, rules, known_at es k)

-- the state where the host begun last is changed
pub change_begun : (es : List (ℕ × Declared)) (b : Begun) (d : Declared) (f : Known → Known) → known d ≡ f (known b.host)
    → state_of es (Some (record { id = b.id; host = d })) ≡ with_change (state_of es (Some b)) b.id f
change_begun es b d f is = rw (known_begun es b, is, insert_again (known_each es) b.id (known b.host) (f (known b.host))) refl

-- where another is
pub change_before : (m n : BTreeMap ℕ Declared) (o : Option Begun) (k : ℕ) (d d' : Declared) (f : Known → Known) → is_begun o k ≡ false → get nat_cmp m k ≡ Some d
    → WritesThrough nat_cmp (nat_cmp k) m d' n → known d' ≡ f (known d) → state_of n.entries o ≡ with_change (state_of m.entries o) k f
change_before m n o k d d' f another was w is = rw (known_before m.entries o k another, was, ← is) (go o another)
  where
    go : (o : Option Begun) → is_begun o k ≡ false → state_of n.entries o ≡ record (state_of m.entries o) { hosts = map.insert (state_of m.entries o).hosts k (known d') }
    go None another = rw (written m n k d d' was w) refl
    go (Some b) another = rw (written m n k d d' was w, insert_apart (known_each m.entries) b.id k (known b.host) (known d') another) refl

-- where no host has that identifier
pub change_none : (es : List (ℕ × Declared)) (o : Option Begun) (k : ℕ) (f : Known → Known) → is_begun o k ≡ false → lookup (is_at (nat_cmp k)) es ≡ None
    → state_of es o ≡ with_change (state_of es o) k f
change_none es o k f another none = rw (known_before es o k another, none) refl

-- where a host is written to, but what is known of it stays
pub change_nothing : (m n : BTreeMap ℕ Declared) (o : Option Begun) (k : ℕ) (d d' : Declared) → get nat_cmp m k ≡ Some d → WritesThrough nat_cmp (nat_cmp k) m d' n → known d' ≡ known d
    → state_of n.entries o ≡ state_of m.entries o
change_nothing m n None k d d' was w same = rw (rewritten m n k d d' was w same) refl
change_nothing m n (Some b) k d d' was w same = rw (rewritten m n k d d' was w same) refl

-- a host that is known, opened anew
opened : (s s' : State) (k : ℕ) (x : Known) (o : Option AnyHost) (r : Result (Result (Unit {0}) Refusal) Trouble) → map.get s.hosts k ≡ Some x → s' ≡ with_change s k (λ x. record x { opened = o })
    → Reopens x.kind x.rows x.opened r o → Opens s k r s'
opened s s' k x o (Ok (Ok u)) there after w = rw there (x.kind, w.0, refl, w.1, rw w.2 at (rw there at after))
opened s s' k x o (Ok (Err e)) there after w = rw there (x.kind, refl, w.0, after ∙ rw (there, w.1, insert_same s.hosts k x there) refl)
opened s s' k x o (Err t) there after w = rw there (inr (refl, w.0), after ∙ rw (there, w.1, insert_same s.hosts k x there) refl)

-- the host begun last, opened anew
pub opened_begun : (es : List (ℕ × Declared)) (b : Begun) (o : Option AnyHost) (r : Result (Result (Unit {0}) Refusal) Trouble) → Reopens b.host.kind (vec_items b.host.rows) b.host.opened r o
    → Opens (state_of es (Some b)) b.id r (state_of es (Some (record { id = b.id; host = record b.host { opened = o } })))
opened_begun es b o r w = opened _ _ b.id (known b.host) o r (known_begun es b) (change_begun es b (record b.host { opened = o }) (λ x. record x { opened = o }) refl) w

-- another
pub opened_before : (m n : BTreeMap ℕ Declared) (b : Option Begun) (k : ℕ) (d : Declared) (o : Option AnyHost) (r : Result (Result (Unit {0}) Refusal) Trouble) → is_begun b k ≡ false
    → get nat_cmp m k ≡ Some d → WritesThrough nat_cmp (nat_cmp k) m (record d { opened = o }) n → Reopens d.kind (vec_items d.rows) d.opened r o → Opens (state_of m.entries b) k r (state_of n.entries b)
opened_before m n b k d o r another was writes w =
    opened _ _ k (known d) o r (known_before m.entries b k another ∙ ap (option_map known) was) (change_before m n b k d (record d { opened = o }) (λ x. record x { opened = o }) another was writes refl) w
