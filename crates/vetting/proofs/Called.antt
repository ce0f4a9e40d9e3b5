-- The items of a container that carry a name, asked place by place.
use Rattle.std.proofs.Common.{◌≡◌, ℕ, zero, suc, ◌+◌, Bool, true, false, cond, nat_eq, List, ◌∷◌, Some, None, Option, sym, refl, ap, subst}
use Rattle.std.specs.Bool.{then_some}
use Rattle.std.specs.Fn as fn
use Rattle.std.specs.Iterator.Adapters.{filter_map_source, filter_map_callee, filter_map_steps, map_while_source, map_while_callee, map_while_steps}
use Rattle.std.specs.List.{filter_map, cons_option}
use Rattle.std.specs.Option.{option_map}
use Rattle.std.specs.declared.iter.FilterMap.{FilterMap}
use Rattle.std.specs.declared.iter.MapWhile.{MapWhile}
use Rattle.std.specs.declared.ops.Range.{Range}
use Rattle.std.proofs.iter.Yields.{nat_range_steps}
use Rattle.std.proofs.lemmas.Iterator.{YieldsList}
use Rattle.std.proofs.lemmas.Iterator.Consumers.{YieldsList-from_filter_map}
use Rattle.host.specs.Meaning.{Meaning, joined, listed_from}
use Rattle.host.specs.declared.forms.Item.{Item}
use Rattle.host.specs.declared.forms.ItemId.{ItemId}
use Rattle.vetting.specs.Carriers.{id_at, named_at, named_from, carried}
use Rattle.vetting.specs.declared.holders.Container.{Container}
use Rattle.vetting.proofs.Asking.{asked_gives}
use denote.Param.Members.{Mut}

-- the item of an entry, if it is called by that name
abbrev pub called : ℕ → ItemId × ℕ → Option ItemId
called name e = then_some (nat_eq e.1 name) e.0

kept : (m : Meaning) (c : Container) (name p n : ℕ) → filter_map (called name) (listed_from (named_at m c) p n) ≡ named_from c name p (listed_from (m.item c.kind c.number) p n)
unfolding listed_from
kept m c name p zero = refl
kept m c name p (suc n) = step (m.item c.kind c.number p) (kept m c name (p + 1) n)
  where
    step : (o : Option Item) → filter_map (called name) (listed_from (named_at m c) (p + 1) n) ≡ named_from c name (p + 1) (listed_from (m.item c.kind c.number) (p + 1) n) → filter_map (called name) (joined (option_map (λ i. (id_at c p, i.name)) o) (listed_from (named_at m c) (p + 1) n)) ≡ named_from c name p (joined o (listed_from (m.item c.kind c.number) (p + 1) n))
    step None e = refl
    step (Some i) e = here (nat_eq i.name name)
      where
        here : (b : Bool) → cons_option (then_some b (id_at c p)) (filter_map (called name) (listed_from (named_at m c) (p + 1) n)) ≡ cond b (id_at c p ∷ named_from c name (p + 1) (listed_from (m.item c.kind c.number) (p + 1) n)) (named_from c name (p + 1) (listed_from (m.item c.kind c.number) (p + 1) n))
        here true = ap (λ l. id_at c p ∷ l) e
        here false = e

-- what asking a container place by place gives, where each item with that name is kept
pub carried_gives : {F G : Type 0} (ask : Mut F (ℕ × Unit {0}) (Option (ItemId × ℕ))) (pick : Mut G ((ItemId × ℕ) × Unit {0}) (Option ItemId)) (m : Meaning) (c : Container) (name : ℕ) (u j : FilterMap (MapWhile (Range ℕ) F) G) → j ≡ u → ((p : ℕ) (r : Option (ItemId × ℕ)) (k : F) → fn.Called ask (map_while_callee (filter_map_source u)) (p, tt) r k → (k ≡ map_while_callee (filter_map_source u)) × (r ≡ named_at m c p)) → ((e : ItemId × ℕ) (r : Option ItemId) (k : G) → fn.Called pick (filter_map_callee u) (e, tt) r k → (k ≡ filter_map_callee u) × (r ≡ called name e)) → map_while_source (filter_map_source u) ≡ record { start = 0; end = 64 } → YieldsList (filter_map_steps (map_while_steps nat_range_steps ask) pick) (λ y. y) j (carried m name c)
carried_gives ask pick m c name u j same answers picks range =
    subst (λ w. YieldsList (filter_map_steps (map_while_steps nat_range_steps ask) pick) (λ y. y) w (carried m name c)) (sym same)
    (subst (λ (l : List ItemId). YieldsList (filter_map_steps (map_while_steps nat_range_steps ask) pick) (λ y. y) u l) (kept m c name 0 64)
    (YieldsList-from_filter_map pick (called name) (asked_gives ask (named_at m c) (map_while_callee (filter_map_source u)) answers (filter_map_source u) 64 refl range) refl picks))
