-- How a holder may come to hold a resource that it did not hold (document 01, Who holds what). Stands on Authority.
use Rattle.std.specs.Prelude.{ℕ, List, ◌≡◌, ◌≢◌, T}
use Rattle.sheet_rules.specs.Sheet.{Sheet}
use Rattle.machine_rules.specs.State.{State}
use Rattle.machine_rules.specs.Step.{Action, creates, calls, returns}
use Rattle.lists.specs.Contains.{contains}
use Rattle.authority_rules.specs.Authority.{is_resource, holder_of, top_holder, holds}

-- the three ways in which a step from state σ may give resource b to holder h; a step that only works has none.
-- Top frame and authorities are those of σ, before the step (Who holds what)
pub data Gain (s : Sheet) (σ : State) (h b : ℕ) : Action → Type 0 where
  -- a creation made c: the top frame's holder gets c
  maker : {c : ℕ} {kept : List ℕ} → h ≡ top_holder s σ → b ≡ c → Gain s σ h b (creates c kept)
  -- a creation made c: c gets itself
  itself : {c : ℕ} {kept : List ℕ} → h ≡ c → b ≡ c → Gain s σ h b (creates c kept)
  -- a creation made c: c gets a kept value from the maker's authority
  endowed : {c : ℕ} {kept : List ℕ} → h ≡ c → T (contains kept b) → T (holds s σ (top_holder s σ) b) → Gain s σ h b (creates c kept)
  -- a call: the receiver, a resource, gets the argument from the caller's authority
  argument : {receiver value : ℕ} → T (is_resource s σ.objects receiver) → h ≡ receiver → b ≡ value → T (holds s σ (top_holder s σ) b)
      → Gain s σ h b (calls receiver value)
  -- a return of b from a frame of another resource, whose authority has b, to a frame that belongs to h
  result : {value : ℕ} → T (is_resource s σ.objects (top_holder s σ)) → top_holder s σ ≢ h → b ≡ value → T (holds s σ (top_holder s σ) b)
      → h ≡ holder_of s σ.objects σ.below → Gain s σ h b (returns value)
