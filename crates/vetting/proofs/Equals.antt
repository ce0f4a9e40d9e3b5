-- Tests for equal numbers and containers, and the container of a row.
use Rattle.std.proofs.Common.{◌≡◌, cond, eqb, Some, None, Option, Result, sym, refl, ap, ◌∙◌, arith}
use Rattle.std.specs.Option.{option_map}
use Rattle.std.specs.Result.{result_ok}
use Rattle.std.proofs.lemmas.Bool.{eqb-true, eq-eqb, ne_eqb, and_parts, and_from}
use Rattle.host.specs.Numbers.{Reads, member, container_number, container_kinds, question_number}
use Rattle.host.proofs.Members.{read_member, whole_container_kinds}
use Rattle.host.specs.declared.numbers.UnknownNumber.{UnknownNumber}
use Rattle.host.specs.declared.forms.QuestionKind.{QuestionKind}
use Rattle.host.specs.declared.forms.QuestionKind.TheVariants.{Item}
use Rattle.rows.specs.Rows.{Speaks}
use Rattle.host.specs.declared.forms.ContainerKind.{ContainerKind}
use Rattle.host.specs.declared.forms.ContainerKind.TheVariants.{Impl, Trait}
use Rattle.rows.specs.declared.rows.Row.{Row}
use Rattle.vetting.specs.Containers.{same_container, numbered, container_in}
use Rattle.vetting.proofs.Keeping.{Exact}

pub exact_numbers : Exact eqb
exact_numbers = record { tells = eqb-true; itself = λ n. eq-eqb n n refl }

one_kind : (x y : ContainerKind) → container_number x ≡ container_number y → x ≡ y
one_kind Impl Impl e = refl
one_kind Impl Trait e = absurd (omega arith)
one_kind Trait Impl e = absurd (omega arith)
one_kind Trait Trait e = refl

pub exact_containers : Exact same_container
exact_containers = record {
  tells = λ x y e.
      let parts = and_parts (eqb (container_number x.kind) (container_number y.kind)) (eqb x.number y.number) e in
      let k : x.kind ≡ y.kind = one_kind x.kind y.kind (eqb-true (container_number x.kind) (container_number y.kind) parts.0) in
      let n : x.number ≡ y.number = eqb-true x.number y.number parts.1 in
      λ i. record { kind = k i; number = n i };
  itself = λ x. and_from (eqb (container_number x.kind) (container_number x.kind)) (eqb x.number x.number) (eq-eqb (container_number x.kind) (container_number x.kind) refl) (eq-eqb x.number x.number refl);
}

-- the container of a row of an item, whose kind reads as k
pub of_an_item : (r : Row) (o : Option QuestionKind) (k : Result ContainerKind UnknownNumber) → Speaks r o → o ≡ Some Item → Reads container_number r.key.a1 k → option_map (numbered r) (result_ok k) ≡ container_in r
of_an_item r o k asked is h =
    ap (option_map (numbered r)) (read_member container_number container_kinds whole_container_kinds r.key.a1 k h) ∙ sym (ap (λ t. cond t (option_map (numbered r) (member container_number container_kinds r.key.a1)) None) (eq-eqb r.key.question (question_number Item) (sym ((asked Item).0 is))))

-- and of another row
pub of_no_item : (r : Row) (o : Option QuestionKind) → Speaks r o → (o ≡ Some Item → ⊥) → None ≡ container_in r
of_no_item r o asked other =
    sym (ap (λ t. cond t (option_map (numbered r) (member container_number container_kinds r.key.a1)) None) (ne_eqb r.key.question (question_number Item) (λ e. other ((asked Item).1 (sym e)))))
