-- The reply for a list of holders after the run of the sheet that the buffer holds, and for one holder. Assumes nothing.
use Prim.Native.Nat.{ℕ, min}
use native.Mathlib.Omega.{arith}
use mathlib.Core.Path.{◌≡◌, refl, sym, ap, ◌∙◌, subst}
use mathlib.Core.Bool.{Bool, true, false, cond}
use mathlib.Core.List.{List, [], ◌∷◌}
use lib.Dec.{T, leb}
use lib.ListN.{length}
use Rattle.lists.specs.AnyAll.{all}
use Rattle.lists.proofs.Tests.{and_right, true→T}
use Rattle.sheet_rules.specs.declared.Reason.{Reason}
use Rattle.sheet_rules.specs.declared.Reason.TheVariants.{NoHolder}
use Rattle.sheet_rules.specs.declared.Verdict.{Verdict}
use Rattle.machine_rules.specs.Steps.{Ran, ended, run}
use Rattle.sheet_rules.specs.Answers.{turned_away}
use Rattle.sheet_rules.specs.declared.Refusal.{Refusal}
use Rattle.std.specs.declared.result.Result.TheVariants.{Ok}
use Rattle.std.specs.declared.result.Result.{Result}
use Rattle.authority_rules.specs.Authority.{is_holder}
use Rattle.authority_rules.specs.AuthorityQuestion.{Held, held, not_held}
use Rattle.authority_rules.specs.Group.{group_authority, group_limit, is_group, group_in, group_held}
use Rattle.authority_rules.proofs.GroupLaws.{listed_held}
use Rattle.table.specs.View.{sheet_in}
use Rattle.table.proofs.ViewLaws.{Only-trans, Only-widen, sheet_in_same}
use Rattle.verdict_question.specs.Asked.{TextJudged}
use Rattle.verdict_question.proofs.OnLaws.{Told-refused, Told-accepted}
use Rattle.machine.specs.declared.Halt.{Halt}
use Rattle.machine.specs.Runs.{halted_state, SheetRun}
use Rattle.lists.specs.PutAt.{begun}
use Rattle.slot_notes.specs.Noted.{FormsNotedIn}
use Rattle.authority.specs.Members.{GroupWritten}
use Rattle.authority.proofs.MarkedRunLaws.{marks_state, above_state, run_prepared}
use Rattle.authority_question.specs.Noted.{NotedRun}
use Rattle.authority_question.specs.Asked.{held_reply, held_numbers, HeldTold, HeldAsked, GroupAsked, AuthorityAsked}

-- a run, and then its forms noted
pub noted_run : {w : List ℕ} {budget : ℕ} {w₁ : List ℕ} {halt : Halt} → SheetRun w budget w₁ halt → {w₂ : List ℕ} → FormsNotedIn w₁ (length (sheet_in w₁).forms) w₂
    → NotedRun w budget w₂ halt
noted_run {w₁ = w₁} {halt} s {w₂} m =
    record {
      only = Only-trans (Only-widen (omega arith) (omega arith) s.only) (Only-widen (omega arith) (omega arith) m.only);
      ran = s.ran ∙ ap (ended halt.outcome halt.tally.steps) (sym (marks_state w₁ w₂ (above_state m) halt.top halt.tally s.running));
      within = s.within;
      prepared = run_prepared w₁ w₂ halt.top halt.tally s.running m;
    }

module _ {w : List ℕ} {budget : ℕ} {w₁ : List ℕ} {halt : Halt} (s : NotedRun w budget w₁ halt) where
  pub run_sheet_same : sheet_in w₁ ≡ sheet_in w
  run_sheet_same = sheet_in_same w w₁ (λ i h. s.only.below i h)

  pub run-last : (run (sheet_in w) budget).last ≡ halted_state w₁ halt
  run-last = ap (λ (x : Ran). x.last) s.ran

  -- q is what the list was judged
  module _ (hs : List ℕ) {q : Bool} (e : q ≡ is_group (sheet_in w₁) (halted_state w₁ halt).objects hs) where
    held_is : group_in (sheet_in w) (run (sheet_in w) budget).last hs ≡ cond q (held (group_authority (sheet_in w₁) (halted_state w₁ halt) hs)) (not_held NoHolder 0)
    held_is =
        sym (λ i. group_in (run_sheet_same i) (sym run-last i) hs)
        ∙ ap (λ (b : Bool). cond b (held (group_authority (sheet_in w₁) (halted_state w₁ halt) hs)) (not_held NoHolder 0)) (sym e)

    pub no_group : q ≡ false → (result : List ℕ) → HeldTold (group_in (sheet_in w) (run (sheet_in w) budget).last hs) w result w₁ result (turned_away NoHolder 0)
    no_group p result =
        record {
          same = sym (ap held_reply x);
          written = sym (ap (λ (y : Held). begun (held_numbers y) result) x);
          only = Only-widen (omega arith) (omega arith) s.only;
        }
      where
        x : group_in (sheet_in w) (run (sheet_in w) budget).last hs ≡ not_held NoHolder 0
        x = held_is ∙ ap (λ (b : Bool). cond b (held (group_authority (sheet_in w₁) (halted_state w₁ halt) hs)) (not_held NoHolder 0)) p

    -- every number of a group is a holder
    pub group_holders : q ≡ true → T (all (is_holder (sheet_in w₁) (halted_state w₁ halt).objects) hs)
    group_holders p = and_right (leb (length hs) group_limit) (all (is_holder (sheet_in w₁) (halted_state w₁ halt).objects) hs) (true→T _ (sym e ∙ p))

    pub group_told : q ≡ true → {result w' result' : List ℕ} {c : ℕ} → GroupWritten w₁ halt.top halt.tally hs w' result result' c
        → {c' : ℕ} → c' ≡ c → HeldTold (group_in (sheet_in w) (run (sheet_in w) budget).last hs) w result w' result' (Ok c')
    group_told p {result} a ec =
        record {
          same = ap Ok (ec ∙ a.counted) ∙ sym (ap held_reply x);
          written = a.left ∙ sym (ap (λ (y : Held). begun (held_numbers y) result) x);
          only = Only-trans (Only-widen (omega arith) (omega arith) s.only) (Only-widen (omega arith) (omega arith) a.only);
        }
      where
        x : group_in (sheet_in w) (run (sheet_in w) budget).last hs ≡ held (group_authority (sheet_in w₁) (halted_state w₁ halt) hs)
        x = held_is ∙ ap (λ (b : Bool). cond b (held (group_authority (sheet_in w₁) (halted_state w₁ halt) hs)) (not_held NoHolder 0)) p

-- a text: refused, or accepted and run
module _ {text w w₁ : List ℕ} {v : Verdict} (j : TextJudged text w w₁ v) (budget : ℕ) (hs : List ℕ) {result : List ℕ} where
  pub held_refused : {q : Reason} {l : ℕ} → v ≡ Verdict.Refused q l → HeldTold (group_held text budget hs) w result w₁ result (turned_away q l)
  unfolding group_held
  held_refused e = Told-refused not_held (λ s. group_in s (run s budget).last hs) held_reply held_numbers j (λ p n. refl) e

  pub held_accepted : v ≡ Verdict.Accepted → {w' result' : List ℕ} {r : Result ℕ Refusal} → HeldTold (group_in (sheet_in w₁) (run (sheet_in w₁) budget).last hs) w₁ result w' result' r
      → HeldTold (group_held text budget hs) w result w' result' r
  unfolding group_held
  held_accepted e t = Told-accepted not_held (λ s. group_in s (run s budget).last hs) held_reply held_numbers j e t

-- one holder: the list of its number
pub one_asked : (text : List ℕ) (budget h : ℕ) {g : ℕ} → g ≡ min h 257 → {w result w' result' : List ℕ} {r : Result ℕ Refusal}
    → GroupAsked text budget (g ∷ []) w result w' result' r → AuthorityAsked text budget h w result w' result' r
one_asked text budget h e {w} {result} {w'} {result'} {r} a =
    subst (λ (x : Held). HeldAsked x w result w' result' r) (ap (λ (x : ℕ). group_held text budget (x ∷ [])) e ∙ listed_held text budget h) a
