-- What the bound says of every run holds: each step lowers what a state can still need, so n steps and what is needed after them are at
-- most main's amount; and a run whose budget is spent would still need a step. Assumes nothing.
use Prim.Native.Nat.{ℕ, zero, suc, ◌+◌, ◌≤◌}
use native.Mathlib.Omega.{arith}
use native.Mathlib.Decide.{dec_le}
use mathlib.Core.Path.{◌≡◌, refl, sym, ap, ◌∙◌, subst}
use mathlib.Core.Bool.{Bool, true, false, cond}
use mathlib.Core.List.{List, [], ◌∷◌}
use mathlib.Core.Option.{Option, none, some}
use lib.Dec.{ltb}
use lib.ListN.{length, get_or-eq_default}
use Rattle.lists.proofs.InLaws.{In-get_or}
use Rattle.lists.proofs.Tests.{clash}
use Rattle.sheet_rules.specs.declared.Member.{Member}
use Rattle.sheet_rules.specs.Limits.{store_limit, stack_limit}
use Rattle.sheet_rules.specs.Sheet.{Instr, new, call, get, put, copy, called_name, Form, Sheet, no_form, form_at}
use Rattle.sheet_rules.specs.WellFormed.{WellFormed}
use Rattle.sheet_rules.specs.Reading.{meaning}
use Rattle.sheet_rules.proofs.ReadingLaws.{readable-WellFormed}
use Rattle.type_rules.specs.SlotRows.{members_at}
use Rattle.type_rules.specs.Typing.{typing, verdict}
use Rattle.type_rules.proofs.VerdictLaws.{accepted_on_lem}
use Rattle.machine_rules.specs.declared.Outcome.{Outcome}
use Rattle.machine_rules.specs.declared.Outcome.TheVariants.{Done, Spent, StoreFull, StackFull}
use Rattle.sheet_rules.specs.Answers.{turned_away}
use Rattle.std.specs.declared.result.Result.TheVariants.{Ok}
use Rattle.machine_rules.specs.State.{Frame, State, frame_count, start, object_at}
use Rattle.machine_rules.specs.Step.{creates, Next, step, store_full, stack_full, body_in, field_place, members_of, slot_values, with_new, new_step, entered, called_step, call_step, got_step, get_step, has_put_step, put_step, instr_step, return_step, code_step, next_step}
use Rattle.machine_rules.specs.Steps.{step_from, after, run, answer_of, run_reply}
use Rattle.machine_rules.proofs.NextLaws.{Comes, its_end, its_step, its_store, its_stack, its_lack, Comes-step}
use Rattle.machine_rules.proofs.StepsLaws.{is_finished, Why, run-Ends}
use Rattle.machine_rules.proofs.TakenLaws.{take_end}
use Rattle.machine_rules.proofs.SoundLaws.{state_of-step, never_lacking}
use Rattle.bound_rules.specs.Strict.{body_of, Strict}
use Rattle.bound_rules.specs.Amount.{amount_at, called_amount, code_amount, amounts, main_amount}
use Rattle.bound_rules.specs.Sure.{waiting_amount, still_needs, Unspent, unspent, NeedsAtMost, Sure}
use Rattle.bound_rules.proofs.AmountLaws.{amount_covers}
use Rattle.bound_rules.proofs.BoundLaws.{StrictText, bound_exactly}

-- A STEP LOWERS WHAT IS NEEDED

-- a form that is not in the sheet has no body
no_form_lem : (s : Sheet) (f n : ℕ) (is : List Instr) → length s.forms ≤ f → body_of s (form_at s f) n ≡ some is → ⊥
unfolding body_in
no_form_lem s f n is h e = go (members_at s no_form.row) (ap (λ (x : Form). body_of s x n) (sym (get_or-eq_default s.forms no_form h)) ∙ e)
  where
    go : (ms : List Member) → body_in ms [] n ≡ some is → ⊥
    go [] e = clash (cc)
    go (m ∷ ms) e = clash (cc)

module _ (s : Sheet) (w : WellFormed s) (strict : Strict s) (σ : State) where
  abbrev xs : List ℕ
  xs = amounts s

  abbrev Falls : Next → Type 0
  Falls = Comes (λ a σ'. suc (still_needs s σ') ≤ still_needs s σ) Unit Unit Unit

  -- a body that a call finds is within the amount of the called name
  found_covered : (f n : ℕ) (is : List Instr) → body_of s (form_at s f) n ≡ some is → suc (code_amount xs is) ≤ amount_at xs n
  found_covered f n is e = go (dec_le (suc f) (length s.forms))
    where
      go : Dec (suc f ≤ length s.forms) → suc (code_amount xs is) ≤ amount_at xs n
      go (yes h) = amount_covers s w strict n (form_at s f) is (In-get_or s.forms f no_form h) e
      go (no h) = absurd (no_form_lem s f n is (omega arith) e)

  module _ (i : Instr) (is : List Instr) (code : σ.top.code ≡ i ∷ is) where
    needed : code_amount xs σ.top.code ≡ suc (called_amount xs (called_name i) + code_amount xs is)
    unfolding code_amount
    needed = ap (code_amount xs) code

    moved : suc (code_amount xs is + waiting_amount xs σ.below) ≤ still_needs s σ
    moved = let h = needed in omega arith

    new_falls : (f : ℕ) (kept : List ℕ) → Falls (new_step s σ is f kept)
    new_falls f kept = go (ltb (length σ.objects) store_limit)
      where
        go : (t : Bool) → Falls (cond t (step (creates (length σ.objects) kept) (with_new s σ is f kept)) store_full)
        go true = its_step moved
        go false = its_store tt

    get_falls : (own : Option ℕ) (n : ℕ) → Falls (get_step s σ is own n)
    get_falls none n = its_lack tt
    get_falls (some o) n = go (field_place (members_of s (object_at σ.objects o)) n)
      where
        go : (p : Option ℕ) → Falls (got_step σ is o p)
        go none = its_lack tt
        go (some p) = its_step moved

    put_falls : (own : Option ℕ) (n v : ℕ) → Falls (put_step s σ is own n v)
    put_falls none n v = its_lack tt
    put_falls (some o) n v = go (field_place (members_of s (object_at σ.objects o)) n)
      where
        go : (p : Option ℕ) → Falls (has_put_step σ is o v p)
        go none = its_lack tt
        go (some p) = its_step moved

  module _ (o n a : ℕ) (is : List Instr) (code : σ.top.code ≡ call o n a ∷ is) (receiver argument : ℕ) where
    abbrev form : ℕ
    form = (object_at σ.objects receiver).form

    -- the called body, the rest of the caller's code and the return are within the call's own step and the amount of the called name
    call_lowers : (js : List Instr) → body_of s (form_at s form) n ≡ some js → suc (still_needs s (entered σ is receiver argument js)) ≤ still_needs s σ
    unfolding waiting_amount
    call_lowers js e = let h = needed (call o n a) is code in let c = found_covered form n js e in omega arith

    call_falls : Falls (call_step s σ is receiver n argument)
    call_falls = go (ltb (frame_count σ) stack_limit) (body_of s (form_at s form) n) refl
      where
        go : (t : Bool) (found : Option (List Instr)) → body_of s (form_at s form) n ≡ found → Falls (cond t (called_step σ is receiver argument found) stack_full)
        go true none e = its_lack tt
        go true (some js) e = its_step (call_lowers js e)
        go false found e = its_stack tt

  instr_falls : (i : Instr) (is : List Instr) → σ.top.code ≡ i ∷ is → Falls (instr_step s σ i is)
  unfolding instr_step
  instr_falls (new f ss) is e = new_falls (new f ss) is e f (slot_values σ.top.slots ss)
  instr_falls (call o n a) is e = call_falls o n a is e _ _
  instr_falls (get n) is e = get_falls (get n) is e σ.top.own n
  instr_falls (put n v) is e = put_falls (put n v) is e σ.top.own n _
  instr_falls (copy v) is e = its_step (moved (copy v) is e)

  return_falls : (fs : List Frame) → σ.below ≡ fs → Falls (return_step σ fs)
  unfolding return_step waiting_amount
  return_falls [] e = its_end
  return_falls (f ∷ fs) e =
      let h : waiting_amount xs σ.below ≡ suc (code_amount xs f.code + waiting_amount xs fs) = ap (waiting_amount xs) e in
      let lower : suc (code_amount xs f.code + waiting_amount xs fs) ≤ still_needs s σ = omega arith in
      its_step lower

  code-Falls : (c : List Instr) → σ.top.code ≡ c → Falls (code_step s σ c)
  unfolding code_step
  code-Falls [] e = return_falls σ.below refl
  code-Falls (i ∷ is) e = instr_falls i is e

  pub step_falls : Falls (next_step s σ)
  unfolding next_step
  step_falls = code-Falls σ.top.code refl

-- EVERY NUMBER OF STEPS, EVERY RUN

no_code : (xs : List ℕ) (is : List Instr) → code_amount xs is ≡ 0 → is ≡ []
unfolding code_amount
no_code xs [] e = refl
no_code xs (i ∷ is) e = absurd (omega arith)

no_frame : (xs : List ℕ) (fs : List Frame) → waiting_amount xs fs ≡ 0 → fs ≡ []
unfolding waiting_amount
no_frame xs [] e = refl
no_frame xs (f ∷ fs) e = absurd (omega arith)

module _ (text : List ℕ) (m : ℕ) (a : StrictText text m) where
  abbrev s : Sheet
  s = a.sheet

  well_formed : WellFormed s
  well_formed = readable-WellFormed text s a.read

  -- n steps, and what the state can still need after them
  needs_left : (n : ℕ) (σ : State) → after s n ≡ some σ → n + still_needs s σ ≤ main_amount s
  unfolding after main_amount waiting_amount
  needs_left zero σ e =
      let same : start s ≡ σ = cc in
      subst (λ (τ : State). 0 + still_needs s τ ≤ code_amount (amounts s) s.main) same (omega arith)
  needs_left (suc n) σ e = go (after s n) (needs_left n) e
    where
      go : (x : Option State) → ((τ : State) → x ≡ some τ → n + still_needs s τ ≤ main_amount s) → step_from s x ≡ some σ → suc n + still_needs s σ ≤ main_amount s
      go none earlier q = clash (cc)
      go (some τ) earlier q =
          let x = state_of-step (next_step s τ) σ q in
          let lower = Comes-step (step_falls s well_formed a.strict τ) x.1 in
          let h = earlier τ refl in
          omega arith

  -- a state that needs no step is finished
  nothing_needed : (σ : State) → still_needs s σ ≡ 0 → is_finished (next_step s σ) ≡ true
  nothing_needed σ z = ap is_finished (take_end s σ (no_code (amounts s) σ.top.code (omega arith)) (no_frame (amounts s) σ.below (omega arith)))

  -- a run with at least m does not end as spent
  pub ends_unspent : (budget : ℕ) → m ≤ budget → (run s budget).outcome ≡ Spent → ⊥
  ends_unspent budget h p = go (run s budget).outcome (run-Ends s budget).why p
    where
      steps : ℕ
      steps = (run s budget).steps

      last : State
      last = (run s budget).last

      go : (o : Outcome) → Why s budget steps last o → o ≡ Spent → ⊥
      go Done (Why.done q) p = clash (cc)
      go Spent (Why.spent q r) p =
          let l = needs_left steps last (run-Ends s budget).reached in
          let z : still_needs s last ≡ 0 = omega (arith, a.is) in
          let t = nothing_needed last z in
          clash (cc)
      go StoreFull (Why.store l q) p = clash (cc)
      go StackFull (Why.stack l q) p = clash (cc)
      go Spent (Why.lacks l q) p = never_lacking text s a.read a.accepted steps last (run-Ends s budget).reached q

  sure_text : NeedsAtMost text m
  unfolding run_reply verdict
  sure_text =
      record {
        sheet = s;
        read = a.read;
        is = a.is;
        left = λ n σ e. (let h = needs_left n σ e in omega (arith, a.is));
        ends = λ budget h.
            subst Unspent (sym (accepted_on_lem typing turned_away (λ x. Ok (answer_of (run x budget))) (meaning text) s a.read a.accepted))
            (unspent (ends_unspent budget h));
      }

-- every text for which the question answers
pub sure : Sure
sure text m e = sure_text text m ((bound_exactly text m).0 e)
