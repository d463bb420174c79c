-- A question that goes on from reading: an unreadable text is refused so, and a readable one is answered from its sheet; for any type
-- of answers. Assumes nothing.
use Prim.Native.Nat.{ℕ, ◌≤◌}
use native.Mathlib.Omega.{arith}
use mathlib.Core.Path.{◌≡◌, refl, sym, ap, ◌∙◌, subst}
use mathlib.Core.List.{List}
use lib.ListN.{length}
use Rattle.sheet_rules.specs.declared.Reason.{Reason}
use Rattle.sheet_rules.specs.declared.Verdict.{Verdict}
use Rattle.sheet_rules.specs.Reading.{Meaning, readable, unreadable, meaning}
use Rattle.table.specs.Layout.{work_size}
use Rattle.table.specs.Only.{Only}
use Rattle.table.specs.View.{sheet_in}
use Rattle.table.specs.Whole.{Whole}
use Rattle.table.proofs.ViewLaws.{Only-trans, Only-widen}
use Rattle.question.specs.Asked.{ToldAlone}
use Rattle.reader.specs.Reads.{SheetRead}
use Rattle.reader.proofs.SheetLaws.{read_means, read_well_formed}

module _ {text w w₁ : List ℕ} {v : Verdict} (size : work_size ≤ length w) (s : SheetRead text w w₁ v) where
  pub read_only : Only 0 work_size w w₁
  read_only = Only-widen (omega arith) (omega arith) s.only

  pub read_whole : v ≡ Verdict.Accepted → Whole w₁
  read_whole e =
      record { size = omega (arith, s.only.size, size); sheet = read_well_formed text w w₁ size (subst (SheetRead text w w₁) e s) }

  module _ {A : Type 0} (on : Meaning → A) where
    pub told_unread : {q : Reason} {l : ℕ} → v ≡ Verdict.Refused q l → ToldAlone (on (meaning text)) w w₁ (on (unreadable q l))
    told_unread e =
        record { same = sym (ap on (read_means text w w₁ size (subst (SheetRead text w w₁) e s))); written = refl; only = read_only }

    pub told_read : v ≡ Verdict.Accepted → {w' : List ℕ} {r : A} → ToldAlone (on (readable (sheet_in w₁))) w₁ w' r → ToldAlone (on (meaning text)) w w' r
    told_read e k =
        record {
          same = k.same ∙ sym (ap on (read_means text w w₁ size (subst (SheetRead text w w₁) e s)));
          written = refl;
          only = Only-trans read_only k.only;
        }
