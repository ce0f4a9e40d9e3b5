-- The search for a container's item, place by place.
use Rattle.std.specs.Bool.{then_some}
use Rattle.std.specs.Option.{option_map}
use Rattle.std.proofs.Common.{◌≡◌, ℕ, ◌+◌, ◌-◌, ◌<◌, Bool, true, false, cond, sym, refl, ap, ◌∙◌}
use Rattle.host.specs.Meaning.{listed_from, joined}
use Rattle.method_resolution.specs.Types.{ContainerKind, Item, ItemId, Mode, None, Option, Some}
use Rattle.method_resolution.specs.Questions.{Question}
use Rattle.method_resolution.specs.Assembly.{has_name, serves, first_named, offered_place}
use Rattle.method_resolution.proofs.OneMore.{listed_next}

-- an answer of the place, said of the item there
pub served_item : (f : ℕ → ItemId) (b : Bool) (p : ℕ) → then_some b (f p) ≡ option_map f (then_some b p)
served_item f true p = refl
served_item f false p = refl

pub start : (q : Question) (k : ContainerKind) (c : ℕ) → offered_place q k c ≡ first_named q.name q.mode 0 (listed_from (q.meaning.item k c) 0 64)
unfolding offered_place
start q k c = refl

module _ (f : ℕ → Option Item) (n : ℕ) (mode : Mode) (p : ℕ) (h : p < 64) where
  served : (b : Bool) → then_some b p ≡ cond b (Some p) None
  served true = refl
  served false = refl

  next : (o : Option Item) → o ≡ f p → first_named n mode p (listed_from f p (64 - p)) ≡ first_named n mode p (joined o (listed_from f (p + 1) (64 - (p + 1))))
  next o e = ap (first_named n mode p) (listed_next f p h ∙ ap (λ i. joined i (listed_from f (p + 1) (64 - (p + 1)))) (sym e))

  pub absent : None ≡ f p → first_named n mode p (listed_from f p (64 - p)) ≡ None
  absent e = next None e

  pub hit : (i : Item) → Some i ≡ f p → true ≡ has_name n i → (b : Bool) → b ≡ serves mode i → then_some b p ≡ first_named n mode p (listed_from f p (64 - p))
  hit i e y b s =
      sym (next (Some i) e ∙ ap (λ t. cond t (cond (serves mode i) (Some p) None) (first_named n mode (p + 1) (listed_from f (p + 1) (64 - (p + 1))))) (sym y)
      ∙ ap (λ t. cond t (Some p) None) (sym s) ∙ sym (served b))

  pub miss : (i : Item) → Some i ≡ f p → false ≡ has_name n i → first_named n mode p (listed_from f p (64 - p)) ≡ first_named n mode (p + 1) (listed_from f (p + 1) (64 - (p + 1)))
  miss i e y = next (Some i) e ∙ ap (λ b. cond b (cond (serves mode i) (Some p) None) (first_named n mode (p + 1) (listed_from f (p + 1) (64 - (p + 1))))) (sym y)

pub end : (f : ℕ → Option Item) (n : ℕ) (mode : Mode) (p k : ℕ) → k ≡ 0 → first_named n mode p (listed_from f p k) ≡ None
unfolding listed_from
end f n mode p k e = ap (λ z. first_named n mode p (listed_from f p z)) e
