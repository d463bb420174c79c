-- The run's loop: what it keeps, a law for its start, for a step, and for its end; the sheet's run, and its answer. Assumes nothing.
use Prim.Native.Nat.{ℕ, suc, pred, ◌-◌, ◌≤◌, ◌<◌}
use native.Mathlib.Omega.{arith}
use mathlib.Core.Path.{◌≡◌, sym, ap, ◌∙◌, subst}
use mathlib.Core.List.{List}
use lib.ListN.{length}
use Rattle.lists.specs.Tab.{tab}
use Rattle.std.specs.declared.result.Result.TheVariants.{Ok}
use Rattle.sheet_rules.specs.Sheet.{Sheet}
use Rattle.machine_rules.specs.declared.Outcome.{Outcome}
use Rattle.machine_rules.specs.declared.Tally.{Tally}
use Rattle.machine_rules.specs.State.{last_of}
use Rattle.machine_rules.specs.Steps.{start_tally, run_from, run}
use Rattle.machine_rules.specs.Sound.{Sound}
use Rattle.machine_rules.proofs.StartLaws.{start-Sound}
use Rattle.machine_rules.proofs.SoundLaws.{step-Sound}
use Rattle.machine_rules.proofs.TakenLaws.{run_step}
use Rattle.table.specs.Layout.{device_count_at, object_address, state_end, work_size, slot_address}
use Rattle.table.specs.View.{cell, sheet_in}
use Rattle.table.specs.Only.{Only}
use Rattle.table.proofs.ViewLaws.{Only-refl, Only-trans, Only-widen}
use Rattle.accepted.specs.Accepted.{AcceptedIn}
use Rattle.accepted.proofs.AcceptedLaws.{accepted_same}
use Rattle.machine_places.specs.Located.{PlacesFilled}
use Rattle.machine_places.proofs.LocatedLaws.{places_sheet, Located-same}
use Rattle.machine_state.specs.declared.Top.{Top}
use Rattle.machine_state.specs.Held.{slots_in, state_in}
use Rattle.machine_steps.specs.Running.{Running, Took}
use Rattle.machine_steps.proofs.FacingLaws.{frames_few, room, last_is}
use Rattle.machine.specs.declared.Halt.{Halt}
use Rattle.machine.specs.Runs.{Moved, Ends, start_top, Able, DevicesPut, Ready, SheetRun}
use Rattle.machine.proofs.StartLaws.{sheet_kept, start_is}

-- a step taken leaves a run
pub Took-Running : (w : List ℕ) (t : Top) (k : Tally) (w' : List ℕ) (t' : Top) (k' : Tally) → Running w t k → Took w t k w' t' k' → Running w' t' k'
Took-Running w t k w' t' k' r o =
    record {
      accepted = accepted_same w w' o.only.size (λ i h. o.only.below i (omega arith)) r.accepted;
      located = Located-same w w' (λ i h. o.only.below i (omega arith)) r.located;
      sound =
          subst (λ (s : Sheet). Sound s (state_in s w' t' k')) (sym same)
          (step-Sound (sheet_in w) r.accepted.whole.sheet r.accepted.typed (state_in (sheet_in w) w t k) (state_in (sheet_in w) w' t' k') o.action r.sound o.next);
      ending = o.ending;
    }
  where
    same : sheet_in w' ≡ sheet_in w
    same = sheet_kept w w' o.only

-- the start

pub Ready-Running : (w : List ℕ) → Ready w → Running w (start_top w) (start_tally (cell w device_count_at))
Ready-Running w r =
    let a : Able w = r.able in
    record {
      accepted = a.accepted;
      located = a.located;
      sound = subst (Sound (sheet_in w)) (sym (start_is w r)) (start-Sound (sheet_in w) a.accepted.whole.sheet a.accepted.typed);
      ending = record { frames = omega arith; top = a.accepted.placed.main; below = λ f h. absurd (omega arith) };
    }

-- what the loop keeps: a run, and that running on from here with what is left of the budget is running from the start

pub record Going (w₀ : List ℕ) (budget : ℕ) (w : List ℕ) (t : Top) (k : Tally) : Type 0 where
  pub running : Running w t k
  pub only : Only (object_address 0) state_end w₀ w
  pub within : k.steps ≤ budget
  pub same : run_from (sheet_in w) (budget - k.steps) k.steps (state_in (sheet_in w) w t k) ≡ run (sheet_in w₀) budget

pub Going-start : (w : List ℕ) (budget : ℕ) → Ready w → Going w budget w (start_top w) (start_tally (cell w device_count_at))
unfolding run
Going-start w budget a =
    record {
      running = Ready-Running w a;
      only = Only-refl (object_address 0) state_end w;
      within = omega arith;
      same = (let n : budget - 0 ≡ budget = omega arith in λ i. run_from (sheet_in w) (n i) 0 (start_is w a i));
    }

module _ (w₀ : List ℕ) (budget : ℕ) (w : List ℕ) (t : Top) (k : Tally) (g : Going w₀ budget w t k) where
  -- a step
  pub Going-step : (w' : List ℕ) (t' : Top) (k' : Tally) → Moved budget w t k w' (Ok (t', k')) → Going w₀ budget w' t' k'
  Going-step w' t' k' (o, n, h) =
      record {
        running = Took-Running w t k w' t' k' g.running o;
        only = Only-trans g.only o.only;
        within = omega (arith, n);
        same =
            (λ i. run_from (sheet_kept w w' o.only i) (left i) (n i) (state_in (sheet_kept w w' o.only i) w' t' k'))
            ∙ sym (run_step (sheet_in w) (state_in (sheet_in w) w t k) (budget - suc k.steps) k.steps o.action (state_in (sheet_in w) w' t' k') o.next)
            ∙ ap (λ (l : ℕ). run_from (sheet_in w) l k.steps (state_in (sheet_in w) w t k)) more
            ∙ g.same;
      }
    where
      left : budget - k'.steps ≡ budget - suc k.steps
      left = omega (arith, n)

      more : suc (budget - suc k.steps) ≡ budget - k.steps
      more = omega arith

  -- the end
  pub halted : (w' : List ℕ) (o : Outcome) → Ends budget w t k w' o → SheetRun w₀ budget w' (record { outcome = o; top = t; tally = k })
  halted w' o e =
      subst (λ (x : List ℕ). SheetRun w₀ budget x (record { outcome = o; top = t; tally = k })) (sym e.left)
      (record { ran = sym g.same ∙ e.here; running = g.running; within = g.within; only = Only-widen (omega arith) (omega arith) g.only })

-- the sheet's run: its members are located, its devices are put in their places, and then it is run

pub located_able : (w w₁ : List ℕ) → AcceptedIn w → PlacesFilled w w₁ → Able w₁
located_able w w₁ a p = record { accepted = accepted_same w w₁ p.only.size (λ i h. p.only.below i h) a; located = p.located }

pub put_ready : {w w₁ : List ℕ} → Able w → DevicesPut w w₁ → Ready w₁
put_ready {w} {w₁} a p =
    record {
      able =
          record {
            accepted = accepted_same w w₁ p.only.size (λ i h. p.only.below i (omega arith)) a.accepted;
            located = Located-same w w₁ (λ i h. p.only.below i (omega arith)) a.located;
          };
      equipped = p.equipped;
    }

pub sheet_run : (w w₁ w₂ w' : List ℕ) (budget : ℕ) (h : Halt) → PlacesFilled w w₁ → DevicesPut w₁ w₂ → SheetRun w₂ budget w' h → SheetRun w budget w' h
sheet_run w w₁ w₂ w' budget h p d q =
    record {
      ran = ap (λ (s : Sheet). run s budget) (sym (sheet_kept w₁ w₂ d.only ∙ places_sheet w w₁ p.only)) ∙ q.ran;
      running = q.running;
      within = q.within;
      only = Only-trans (Only-widen (omega arith) (omega arith) p.only) (Only-trans (Only-widen (omega arith) (omega arith) d.only) q.only);
    }

-- what it answers

module _ (w : List ℕ) (t : Top) (k : Tally) (r : Running w t k) where
  pub last_none : t.filled ≡ 0 → 0 ≡ last_of (slots_in w (pred k.frames) t.filled)
  unfolding tab last_of
  last_none e = ap (λ (n : ℕ). last_of (slots_in w (pred k.frames) n)) (sym e)

  pub last_asks : (t.filled ≡ 0 → ⊥) → (k.frames - 1 < 64) × (t.filled - 1 < 44) × (work_size ≤ length w)
  last_asks n = (omega (arith, frames_few w t k r), omega (arith, room w t k r), r.accepted.whole.size)

  pub last_slot : (t.filled ≡ 0 → ⊥) → cell w (slot_address (k.frames - 1) (t.filled - 1)) ≡ last_of (slots_in w (pred k.frames) t.filled)
  last_slot n =
      let f : k.frames - 1 ≡ pred k.frames = omega arith in
      ap (λ (g : ℕ). cell w (slot_address g (t.filled - 1))) f ∙ sym (last_is w t k r (omega arith))
