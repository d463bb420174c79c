-- The sizes of a sound state, for those who lay it out in a buffer: how many of everything there can be. Assumes nothing.
use Prim.Native.Nat.{ℕ, ◌+◌, ◌≤◌, ◌<◌}
use native.Mathlib.Omega.{arith}
use mathlib.Core.Path.{sym, subst}
use mathlib.Core.List.{List, [], ◌∷◌}
use mathlib.Core.Option.{Option}
use lib.ListN.{length}
use Rattle.lists.specs.In.{In, here, there}
use Rattle.lists.proofs.InLaws.{In-get_or}
use Rattle.lists.proofs.PairwiseLaws.{Pairwise-length}
use Rattle.sheet_rules.specs.declared.Member.{Member}
use Rattle.sheet_rules.specs.declared.Member.TheVariants.{Method, Field}
use Rattle.sheet_rules.specs.Limits.{member_limit, keep_limit}
use Rattle.sheet_rules.specs.Sheet.{Sheet, no_form, form_at}
use Rattle.sheet_rules.specs.WellFormed.{WellFormed}
use Rattle.machine_rules.specs.State.{Object, Frame, State, object_at}
use Rattle.machine_rules.specs.Step.{members_of}
use Rattle.machine_rules.specs.Sound.{field_rows, slot_limit, SoundBelow, bottom, waits, Sound}
use Rattle.machine_rules.proofs.StoreLaws.{values_made}

field_rows_few : (ms : List Member) → length (field_rows ms) ≤ length ms
unfolding field_rows
field_rows_few [] = omega arith
field_rows_few (Field n r ∷ ms) = let h = field_rows_few ms in omega arith
field_rows_few (Method n a r ∷ ms) = let h = field_rows_few ms in omega arith

-- the slots of a frame are within their limit, and each holds an object
pub record BoundedFrame (os : List Object) (f : Frame) : Type 0 where
  pub slots : length f.slots + length f.code ≤ slot_limit
  pub values : (b : ℕ) → In b f.slots → b < length os

-- an object's form is there, its kept values and fields are within their limits, and each is an object
pub record BoundedObject (s : Sheet) (os : List Object) (x : Object) : Type 0 where
  pub form : x.form < length s.forms
  pub kept : length x.kept ≤ keep_limit
  pub fields : length x.fields ≤ member_limit
  pub kept_values : (b : ℕ) → In b x.kept → b < length os
  pub field_values : (b : ℕ) → In b x.fields → b < length os

below_bounded : {s : Sheet} {os : List Object} {result : Option ℕ} (fs : List Frame) → SoundBelow s os result fs → (f : Frame) → In f fs → BoundedFrame os f
below_bounded [] bottom f i = elim i [ ]
below_bounded {os = os} (g ∷ fs) (waits r frame code room fit below) f (here e) =
    subst (BoundedFrame os) (sym e) (record { slots = omega arith; values = λ b j. values_made frame.slots j })
below_bounded (g ∷ fs) (waits r frame code room fit below) f (there i) = below_bounded fs below f i

module _ (s : Sheet) (w : WellFormed s) (σ : State) (c : Sound s σ) where
  pub frame_bounded : (f : Frame) → In f (σ.top ∷ σ.below) → BoundedFrame σ.objects f
  frame_bounded f (here e) =
      subst (BoundedFrame σ.objects) (sym e) (record { slots = c.room; values = λ b j. values_made c.top.slots j })
  frame_bounded f (there i) = below_bounded σ.below c.below f i

  pub object_bounded : (o : ℕ) → o < length σ.objects → BoundedObject s σ.objects (object_at σ.objects o)
  object_bounded o h =
      let x : Object = object_at σ.objects o in
      let y = c.store o h in
      let f = w.forms (form_at s x.form) (In-get_or s.forms x.form no_form y.form) in
      let few : length (members_of s x) ≤ member_limit = (w.rows (form_at s x.form).row).few in
      record {
        form = y.form;
        kept = omega (arith, Pairwise-length y.kept, f.few);
        fields = omega (arith, Pairwise-length y.fields, field_rows_few (members_of s x), few);
        kept_values = λ b i. values_made y.kept i;
        field_values = λ b i. values_made y.fields i;
      }
