-- One step tried: taken and counted, stopped, or the run's end. Assumes nothing.
use Prim.Native.Nat.{ℕ, suc, pred, ◌+◌, ◌-◌, ◌≤◌, ◌<◌}
use native.Mathlib.Omega.{arith}
use mathlib.Core.Path.{◌≡◌, refl, sym, ap, ◌∙◌, subst}
use mathlib.Core.Bool.{false}
use mathlib.Core.List.{List}
use Rattle.std.specs.declared.result.Result.{Result}
use Rattle.std.specs.declared.result.Result.TheVariants.{Ok, Err}
use Rattle.machine_rules.specs.declared.Outcome.{Outcome}
use Rattle.machine_rules.specs.declared.Outcome.TheVariants.{Done, Spent, StoreFull, StackFull}
use Rattle.sheet_rules.specs.Sheet.{new, call}
use Rattle.machine_rules.specs.declared.Tally.{Tally}
use Rattle.machine_rules.specs.Step.{store_full, stack_full, next_step}
use Rattle.machine_rules.specs.State.{last_of}
use Rattle.machine_rules.specs.Steps.{run_from}
use Rattle.machine_rules.proofs.StepsLaws.{is_finished}
use Rattle.machine_rules.proofs.TakenLaws.{full_store, full_stack, take_return, take_end, instr_left, run_done, run_spent, run_store, run_stack}
use Rattle.table.specs.View.{instr_in, instrs_in, sheet_in}
use Rattle.machine_state.specs.declared.Top.{Top}
use Rattle.machine_state.specs.Held.{slots_in, frame_from, top_in, below_in, state_in}
use Rattle.machine_state.proofs.HeldLaws.{code_next, code_end, below_none, below_next, objects_count}
use Rattle.machine_steps.specs.Running.{Facing, Took}
use Rattle.machine_steps.proofs.FacingLaws.{frames_are, code_is}
use Rattle.machine.specs.Runs.{Tried, Moved}

module _ (w : List ℕ) (t : Top) (k : Tally) where
  -- a step taken and counted
  pub Tried-Taken : (w' : List ℕ) (t' : Top) (k' k'' : Tally) → Took w t k w' t' k' → k'' ≡ k' → k'.steps ≡ suc k.steps → Tried w t k w' (Ok (t', k''))
  Tried-Taken w' t' k' k'' o e q = (subst (Took w t k w' t') (sym e) o, ap (λ (x : Tally). x.steps) e ∙ q)

  -- a step that the store or the stack stops
  pub new_stopped : (f : ℕ) (ss : List ℕ) → Facing w t k (new f ss) → 256 ≤ k.objects → next_step (sheet_in w) (state_in (sheet_in w) w t k) ≡ store_full
  new_stopped f ss x h =
      full_store (sheet_in w) (state_in (sheet_in w) w t k) (instrs_in w (t.next + 1) (t.end - (t.next + 1))) f ss (code_is w t k (new f ss) x) (omega (arith, objects_count (sheet_in w) w k.objects))

  pub call_stopped : (o n a : ℕ) → Facing w t k (call o n a) → 64 ≤ k.frames → next_step (sheet_in w) (state_in (sheet_in w) w t k) ≡ stack_full
  call_stopped o n a x h =
      full_stack (sheet_in w) (state_in (sheet_in w) w t k) (instrs_in w (t.next + 1) (t.end - (t.next + 1))) o n a (code_is w t k (call o n a) x) (omega (arith, frames_are w t k x.running))

  module _ (budget : ℕ) where
    -- a step that was tried with budget left
    pub Tried-Moved : (w' : List ℕ) (m : Result (Top × Tally) Outcome) → Tried w t k w' m → k.steps < budget → Moved budget w t k w' m
    Tried-Moved w' (Ok (t', k')) (o, q) h = (o, q, h)
    Tried-Moved w' (Err Done) q h = absurd q
    Tried-Moved w' (Err Spent) q h = absurd q
    Tried-Moved w' (Err StoreFull) (q, e) h =
        let one : budget - k.steps ≡ suc (budget - suc k.steps) = omega arith in
        record {
          here = ap (λ (l : ℕ). run_from (sheet_in w) l k.steps (state_in (sheet_in w) w t k)) one ∙ run_store (sheet_in w) (state_in (sheet_in w) w t k) (budget - suc k.steps) k.steps q;
          left = e;
        }
    Tried-Moved w' (Err StackFull) (q, e) h =
        let one : budget - k.steps ≡ suc (budget - suc k.steps) = omega arith in
        record {
          here = ap (λ (l : ℕ). run_from (sheet_in w) l k.steps (state_in (sheet_in w) w t k)) one ∙ run_stack (sheet_in w) (state_in (sheet_in w) w t k) (budget - suc k.steps) k.steps q;
          left = e;
        }

    -- finished: no instruction is left, and no frame lies beneath
    pub Moved-end : t.end ≤ t.next → k.frames ≤ 1 → Moved budget w t k w (Err Done)
    Moved-end e f =
        record {
          here =
              run_done (sheet_in w) (state_in (sheet_in w) w t k) (budget - k.steps) k.steps (last_of (slots_in w (pred k.frames) t.filled))
              (take_end (sheet_in w) (state_in (sheet_in w) w t k) (code_end w t.next t.end e) (below_none w (pred k.frames) (omega arith)));
          left = refl;
        }

    -- spent: an instruction is left, or a frame lies beneath
    spent : is_finished (next_step (sheet_in w) (state_in (sheet_in w) w t k)) ≡ false → k.steps ≡ budget → Moved budget w t k w (Err Spent)
    spent f e =
        let none : budget - k.steps ≡ 0 = omega arith in
        record {
          here = ap (λ (l : ℕ). run_from (sheet_in w) l k.steps (state_in (sheet_in w) w t k)) none ∙ run_spent (sheet_in w) (state_in (sheet_in w) w t k) k.steps f;
          left = refl;
        }

    pub spent_instr : t.next < t.end → k.steps ≡ budget → Moved budget w t k w (Err Spent)
    spent_instr h =
        spent
        (instr_left (sheet_in w) (state_in (sheet_in w) w t k) (instrs_in w (t.next + 1) (t.end - (t.next + 1))) (instr_in w t.next) (code_next w t.next t.end h))

    pub spent_return : t.end ≤ t.next → 1 < k.frames → k.steps ≡ budget → Moved budget w t k w (Err Spent)
    spent_return e f =
        spent
        (ap is_finished
        (take_return (sheet_in w) (state_in (sheet_in w) w t k) (frame_from w (k.frames - 2) (top_in w (k.frames - 2))) (below_in w (k.frames - 2)) (code_end w t.next t.end e)
        (below_next w (pred k.frames) (k.frames - 2) (omega arith))))
