-- What a step leaves as it is: resources stay resources, frames keep their holders, and what was in a holder's slots stays there.
-- Assumes nothing.
use Prim.Native.Nat.{ℕ, ◌<◌}
use native.Mathlib.Omega.{arith}
use mathlib.Core.Path.{◌≡◌, refl, sym, ap, ◌∙◌}
use mathlib.Core.Bool.{Bool, cond, ◌&&◌}
use mathlib.Core.List.{List, [], ◌∷◌}
use mathlib.Core.Option.{Option}
use lib.ListN.{length}
use borrow.Author.Tests.{lt-ltb}
use Rattle.lists.proofs.AtPlacesLaws.{places_in}
use Rattle.sheet_rules.specs.Sheet.{Sheet, row_of_form, code_names}
use Rattle.type_rules.specs.SlotRows.{Own}
use Rattle.machine_rules.specs.State.{Object, Frame, State, object_at}
use Rattle.machine_rules.specs.Sound.{Receives, main, object, SoundFrame, SoundBelow, bottom, waits, Sound}
use Rattle.machine_rules.proofs.StoreLaws.{values_made, Grows}
use Rattle.authority_rules.specs.Counted.{waiting_slots}
use Rattle.authority_rules.specs.Authority.{is_resource_kind, is_resource, frames, frame_holder, holder_of}
use Rattle.authority_rules.proofs.HoldingLaws.{SlotOf, this, later}

-- sound frames, whatever they wait for
pub data SoundFrames (s : Sheet) (os : List Object) : List Frame → Type 0 where
  no_frame : SoundFrames s os []
  more : {f : Frame} {fs : List Frame} {own : Own} {result : Option ℕ} {rows : List ℕ} → SoundFrame s os f own result rows → SoundFrames s os fs
      → SoundFrames s os (f ∷ fs)

pub below_frames : {s : Sheet} {os : List Object} {result : Option ℕ} {fs : List Frame} → SoundBelow s os result fs → SoundFrames s os fs
below_frames bottom = no_frame
below_frames (waits r f c l t b) = more f (below_frames b)

pub all_frames : (s : Sheet) (σ : State) → Sound s σ → SoundFrames s σ.objects (frames σ)
all_frames s σ c = more c.top (below_frames c.below)

pub slot_made : {s : Sheet} {os : List Object} {h b : ℕ} {fs : List Frame} → SoundFrames s os fs → SlotOf s os waiting_slots h b fs → b < length os
slot_made (more {f = f} c r) (this e i) = values_made c.slots (places_in (code_names f.code) f.slots i)
slot_made (more c r) (later p) = slot_made r p
slot_made {s = s} {os = os} {h = h} {b = b} no_frame x3 = elim x3 [ ]

module _ (s : Sheet) (os os' : List Object) (g : Grows os os') where
  -- an object stays the resource, or the pure object, that it is
  pub resource_same : (o : ℕ) → o < length os → is_resource s os' o ≡ is_resource s os o
  unfolding is_resource
  resource_same o h =
      ap (λ (t : Bool). t && is_resource_kind (row_of_form s (object_at os' o).form).kind) (lt-ltb o (length os') (omega (arith, g.more)))
      ∙ ap (λ (f : ℕ). is_resource_kind (row_of_form s f).kind) (g.same o h)
      ∙ sym (ap (λ (t : Bool). t && is_resource_kind (row_of_form s (object_at os o).form).kind) (lt-ltb o (length os) h))

  receiver_same : {own : Option ℕ} {a result : Option ℕ} (x y : ℕ) → x ≡ y → Receives s os own a result → frame_holder s os' own x ≡ frame_holder s os own y
  receiver_same x y e main = refl
  receiver_same x y e (object {o = o} h p) = ap (λ (t : Bool). cond t o x) (resource_same o h) ∙ ap (λ (z : ℕ). cond (is_resource s os o) o z) e

  -- a frame keeps its holder
  pub holder_same : {fs : List Frame} → SoundFrames s os fs → holder_of s os' fs ≡ holder_of s os fs
  unfolding holder_of
  holder_same no_frame = refl
  holder_same (more {fs = fs} f r) = receiver_same (holder_of s os' fs) (holder_of s os fs) (holder_same r) f.receives

  -- the slots of a holder's frames that count are those that did
  pub slot_same : {count : Frame → List ℕ} {h b : ℕ} {fs : List Frame} → SoundFrames s os fs → SlotOf s os' count h b fs → SlotOf s os count h b fs
  slot_same (more f r) (this e i) = this (sym (holder_same (more f r)) ∙ e) i
  slot_same (more f r) (later p) = later (slot_same r p)
  slot_same {count = count} {h = h} {b = b} no_frame x3 = elim x3 [ ]
