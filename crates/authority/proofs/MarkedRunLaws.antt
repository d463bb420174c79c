-- Marking, as any change above the state, leaves a run as it is; and the notes of its forms. Assumes nothing.
use Prim.Native.Nat.{ℕ, pred, ◌+◌, ◌≤◌, ◌<◌}
use native.Mathlib.Omega.{arith}
use mathlib.Core.Path.{◌≡◌, sym, subst}
use mathlib.Core.List.{List}
use lib.ListN.{length}
use Rattle.sheet_rules.specs.Sheet.{Sheet}
use Rattle.machine_rules.specs.declared.Tally.{Tally}
use Rattle.machine_rules.specs.Sound.{Sound}
use Rattle.table.specs.Layout.{frame_address, state_end, notes_end}
use Rattle.table.specs.View.{sheet_in}
use Rattle.table.specs.Only.{Only}
use Rattle.accepted.proofs.AcceptedLaws.{accepted_same}
use Rattle.machine_places.proofs.LocatedLaws.{Located-same}
use Rattle.machine_state.specs.declared.Top.{Top}
use Rattle.machine_state.proofs.HeldLaws.{below_same}
use Rattle.machine_steps.specs.Running.{Running}
use Rattle.machine_steps.proofs.FacingLaws.{frames_few}
use Rattle.table.proofs.ViewLaws.{Only-widen}
use Rattle.slot_notes.specs.Noted.{FormsNotedIn}
use Rattle.slot_notes.proofs.FormNoteLaws.{FormsNoted-kept, forms_noted}
use Rattle.authority_marks.specs.Marked.{MarksOnly}
use Rattle.authority.specs.Laid.{Prepared}
use Rattle.authority.specs.Members.{held_state}
use Rattle.authority.proofs.BelowLaws.{marks_sheet, marks_objects, marks_frame}

module _ (w w' : List ℕ) {hi : ℕ} (o : Only state_end hi w w') (t : Top) (k : Tally) (r : Running w t k) where
  pub marks_state : held_state w' t k ≡ held_state w t k
  marks_state =
      let few : pred k.frames < 64 = omega (arith, frames_few w t k r, r.ending.frames) in
      λ i. record {
        objects = marks_objects w w' o k.objects i;
        top = marks_frame w w' o (pred k.frames) t i;
        below = below_same w w' (λ j h. o.below j (omega arith)) (pred k.frames) (omega (arith, few)) (λ j l u. o.below j (omega (arith, few))) i;
      }

  pub marks_running : Running w' t k
  marks_running =
      record {
        accepted = accepted_same w w' o.size (λ i h. o.below i (omega arith)) r.accepted;
        located = Located-same w w' (λ i h. o.below i (omega arith)) r.located;
        sound = subst (λ (s : Sheet). Sound s (held_state w' t k)) (sym (marks_sheet w w' o)) (subst (Sound (sheet_in w)) (sym marks_state) r.sound);
        ending =
            record {
              frames = r.ending.frames;
              top = r.ending.top;
              below = λ f h. (let few = frames_few w t k r in subst (λ (x : ℕ). x ≤ 1024) (sym (o.below (frame_address f + 3) (omega arith))) (r.ending.below f h));
            };
      }

-- marking leaves the notes of each form
pub marks_prepared : (w w' : List ℕ) → MarksOnly w w' → (t : Top) (k : Tally) → Prepared w t k → Prepared w' t k
marks_prepared w w' o t k p = record { running = marks_running w w' o t k p.running; noted = FormsNoted-kept o (omega arith) (omega arith) p.noted }

-- noting the forms changes nothing below the end of the state
pub above_state : {w w' : List ℕ} {n : ℕ} → FormsNotedIn w n w' → Only state_end notes_end w w'
above_state m = Only-widen (omega arith) (omega arith) m.only

-- a run whose forms have been noted
pub run_prepared : (w w' : List ℕ) (t : Top) (k : Tally) → Running w t k → FormsNotedIn w (length (sheet_in w).forms) w' → Prepared w' t k
run_prepared w w' t k r m = record { running = marks_running w w' (above_state m) t k r; noted = forms_noted m }
