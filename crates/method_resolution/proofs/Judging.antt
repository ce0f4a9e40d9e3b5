-- A list of candidates is judged one way.
use Rattle.std.proofs.Common.{◌≡◌, List, [], length, sym, refl, ap, ◌∙◌, arith}
use Rattle.std.specs.List.{AllByRecursion as All}
use Rattle.host.specs.Meaning.{◌∈◌, supers_of}
use Rattle.method_resolution.specs.Types.{Candidate, Place}
use Rattle.host.specs.Law.{Lawful}
use Rattle.host.specs.declared.forms.ContainerKind.TheVariants.{Trait}
use Rattle.method_resolution.specs.Questions.{Question}
use Rattle.method_resolution.specs.Judgement as judgement
use Rattle.method_resolution.specs.Judgement.{Decision, pick, Judged, OfTrait, OfOneTrait, AmongSupers, pick_of, trait_pick_of, shadowed_by}
use Rattle.method_resolution.proofs.ListFacts.{all_at}
use Rattle.method_resolution.proofs.AssembledLists.{Offered, one_item}

module _ (q : Question) (law : Lawful q.meaning) (p : Place) (cs : List Candidate) (made : All (Offered q) cs) where
  of_one_trait_item : (c d : Candidate) → c ∈ cs → d ∈ cs → OfOneTrait cs → c.item ≡ d.item
  of_one_trait_item c d m n o =
      let h = all_at (OfTrait o.0) cs c o.1 m in
      let k = all_at (OfTrait o.0) cs d o.1 n in
      one_item q c d (all_at (Offered q) cs c made m) (all_at (Offered q) cs d made n) (h.0 ∙ sym k.0) (h.1 ∙ sym k.1)

  subtrait_item : (c d : Candidate) → c ∈ cs → d ∈ cs → AmongSupers q c.item.container cs → AmongSupers q d.item.container cs → c.item ≡ d.item
  subtrait_item c d m n a b =
      let h = all_at (λ (e : Candidate). (e.item.kind ≡ Trait) × (e.item.container ∈ supers_of q.meaning d.item.container)) cs c b m in
      let k = all_at (λ (e : Candidate). (e.item.kind ≡ Trait) × (e.item.container ∈ supers_of q.meaning c.item.container)) cs d a n in
      one_item q c d (all_at (Offered q) cs c made m) (all_at (Offered q) cs d made n) (h.0 ∙ sym k.0) ((law.supertraits c.item.container).one d.item.container k.1 h.1)

  pub judged_once : (d e : Decision) → Judged q p cs d → Judged q p cs e → d ≡ e
  judged_once d e (judgement.none x) (judgement.none y) = refl
  judged_once d e (judgement.none x) (judgement.sole c y) = cc
  judged_once d e (judgement.none x) (judgement.one_trait c m o i) = absurd (omega (arith, ap length x))
  judged_once d e (judgement.none x) (judgement.subtrait c m o s i a) = absurd (omega (arith, ap length x))
  judged_once d e (judgement.none x) (judgement.several m o s) = absurd (omega (arith, ap length x))
  judged_once d e (judgement.sole b x) (judgement.none y) = cc
  judged_once d e (judgement.sole b x) (judgement.sole c y) = let h : b ≡ c = cc in ap (λ z. pick (pick_of p z) []) h
  judged_once d e (judgement.sole b x) (judgement.one_trait c m o i) = absurd (omega (arith, ap length x))
  judged_once d e (judgement.sole b x) (judgement.subtrait c m o s i a) = absurd (omega (arith, ap length x))
  judged_once d e (judgement.sole b x) (judgement.several m o s) = absurd (omega (arith, ap length x))
  judged_once d e (judgement.one_trait b n u j) (judgement.none y) = absurd (omega (arith, ap length y))
  judged_once d e (judgement.one_trait b n u j) (judgement.sole c y) = absurd (omega (arith, ap length y))
  judged_once d e (judgement.one_trait b n u j) (judgement.one_trait c m o i) = ap (λ z. pick (trait_pick_of p z) []) (of_one_trait_item b c j i o)
  judged_once d e (judgement.one_trait b n u j) (judgement.subtrait c m o s i a) = absurd (o u)
  judged_once d e (judgement.one_trait b n u j) (judgement.several m o s) = absurd (o u)
  judged_once d e (judgement.subtrait b n u t j f) (judgement.none y) = absurd (omega (arith, ap length y))
  judged_once d e (judgement.subtrait b n u t j f) (judgement.sole c y) = absurd (omega (arith, ap length y))
  judged_once d e (judgement.subtrait b n u t j f) (judgement.one_trait c m o i) = absurd (u o)
  judged_once d e (judgement.subtrait b n u t j f) (judgement.subtrait c m o s i a) = ap (λ z. pick (trait_pick_of p z) (shadowed_by z cs)) (subtrait_item b c j i f a)
  judged_once d e (judgement.subtrait b n u t j f) (judgement.several m o s) = absurd (s t (b, (j, f)))
  judged_once d e (judgement.several n u t) (judgement.none y) = absurd (omega (arith, ap length y))
  judged_once d e (judgement.several n u t) (judgement.sole c y) = absurd (omega (arith, ap length y))
  judged_once d e (judgement.several n u t) (judgement.one_trait c m o i) = absurd (u o)
  judged_once d e (judgement.several n u t) (judgement.subtrait c m o s i a) = absurd (t s (c, (i, a)))
  judged_once d e (judgement.several n u t) (judgement.several m o s) = refl
