-- One more candidate, and one more offer, on the lists.
use Rattle.std.proofs.Common.{◌≡◌, ℕ, ◌<◌, ◌≤◌, true, false, cond, List, [], ◌∷◌, ◌++◌, length, filter, sym, refl, ap, ◌∙◌, subst, append-nil, arith, length-append, length-drop}
use Rattle.std.specs.Option.{option_map}
use Rattle.std.specs.Result.{is_ok}
use Rattle.roll.specs.Rolls.{contents, beyond, Pushed}
use Rattle.roll.specs.declared.shape.Full.{Full}
use Rattle.roll.specs.declared.shape.Roll.{Roll}
use Rattle.method_resolution.specs.Types.{ContainerKind, ItemId, Err, None, Ok, Option, Refusal, Result, Some}
use Rattle.method_resolution.specs.declared.Candidate.{Candidate}
use Rattle.method_resolution.specs.Questions.{Question}
use Rattle.method_resolution.specs.Offers.{Offer}
use Rattle.method_resolution.specs.Assembly.{offered_place, container_kind, candidate_at, candidate_of, goes_on, candidates_on}
use Rattle.method_resolution.proofs.OneMore.{candidates_more}
use Rattle.assembly.specs.declared.lists.CandidateLists.{CandidateLists}
use Rattle.assembly.specs.Growth.{room, item_at, Filed, ListsHold, Added}

-- what a push that succeeds leaves of the memory
same_room : {X : Type 0} (before after : Roll X) (x : X) (r : Result (Unit {0}) Full) → is_ok r ≡ true → Pushed before x r after → room after ≡ room before
same_room before after x (Ok u) e h =
    let front = ap length h.1 ∙ length-append (contents before) (x ∷ []) in
    let back = ap length h.2 ∙ length-drop 1 (beyond before) in
    let some = h.0 in
    let one : length (x ∷ []) ≡ 1 = refl in
    omega arith
same_room before after x (Err f) e h = cc

pub one_more : {X : Type 0} (before after : Roll X) (x : X) (r : Result (Unit {0}) Full) → is_ok r ≡ true → Pushed before x r after
    → (0 < length (beyond before)) × (contents after ≡ contents before ++ (x ∷ [])) × (room after ≡ room before)
one_more before after x (Ok u) e h = (h.0, h.1, same_room before after x (Ok u) e h)
one_more before after x (Err f) e h = cc

pub full : {X : Type 0} (before after : Roll X) (x : X) (r : Result (Unit {0}) Full) → is_ok r ≡ false → Pushed before x r after → room before ≤ length (contents before)
full before after x (Ok u) e h = cc
full before after x (Err f) e h = let none = h.0 in omega arith

-- the candidate of an offer, from the item that the program answers
module _ (o : Offer) where
  made_at : (i : ItemId) (r : Option ℕ) → Some i ≡ option_map (item_at (container_kind o.kind) o.container) r → candidate_at o r ≡ record { item = i; kind = o.kind } ∷ []
  made_at i None e = cc
  made_at i (Some p) e = let h : item_at (container_kind o.kind) o.container p ≡ i = cc in ap (λ (j : ItemId). record { item = j; kind = o.kind } ∷ []) h

  unmade_at : (r : Option ℕ) → None ≡ option_map (item_at (container_kind o.kind) o.container) r → candidate_at o r ≡ []
  unmade_at None e = refl
  unmade_at (Some p) e = cc

-- the candidate of an offer whose container has the item
pub made : (q : Question) (o : Offer) (k : ContainerKind) (i : ItemId) → k ≡ container_kind o.kind → Some i ≡ option_map (item_at k o.container) (offered_place q k o.container)
    → candidate_of q o ≡ record { item = i; kind = o.kind } ∷ []
made q o k i e f = made_at o i _ (subst (λ j. Some i ≡ option_map (item_at j o.container) (offered_place q j o.container)) e f)

module _ (q : Question) (os : List Offer) (o : Offer) where
  -- a container without the item adds nothing
  pub added_nothing : (ls : CandidateLists) (k : ContainerKind) → k ≡ container_kind o.kind → None ≡ option_map (item_at k o.container) (offered_place q k o.container) → ListsHold q os ls → Added q os o ls.impl_dups (Ok tt) ls
  added_nothing ls k e f h = (
    record {
      items = λ l.
          h.items l
          ∙ sym (candidates_more q l os o ∙ ap (λ c. candidates_on q l os ++ filter (goes_on q l) c) (unmade_at o _ (subst (λ j. None ≡ option_map (item_at j o.container) (offered_place q j o.container)) e f))
          ∙ append-nil (candidates_on q l os));
      rooms = h.rooms;
    },
    refl,
  )

  -- one with the item adds its candidate
  pub added_one : (c : Candidate) (b a : CandidateLists) (r : Result (Unit {0}) Refusal) → candidate_of q o ≡ c ∷ [] → Filed q c b r a → ListsHold q os b → Added q os o b.impl_dups r a
  added_one c b a (Ok u) e f h = (
    record {
      items = λ l. (f.0 l).0 ∙ ap (λ x. x ++ filter (goes_on q l) (c ∷ [])) (h.items l) ∙ ap (λ x. candidates_on q l os ++ filter (goes_on q l) x) (sym e) ∙ sym (candidates_more q l os o);
      rooms = λ l. (f.0 l).1 ∙ h.rooms l;
    },
    f.1,
  )
  added_one c b a (Err x) e f h =
      let l = f.1.0 in
      let grown : candidates_on q l (os ++ (o ∷ [])) ≡ candidates_on q l os ++ (c ∷ []) = candidates_more q l os o ∙ ap (λ y. candidates_on q l os ++ filter (goes_on q l) y) e ∙ ap (λ t. candidates_on q l os ++ cond t (c ∷ []) []) f.1.1.0 in
      let size = ap length grown ∙ length-append (candidates_on q l os) (c ∷ []) in
      let full = f.1.1.1 in
      let memory = h.rooms l in
      let long = ap length (h.items l) in
      let one : length (c ∷ []) ≡ 1 = refl in
      (f.0, (l, omega arith))
