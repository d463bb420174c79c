-- How a group may come to hold a resource that no member held, and the claim that these are the only ways, for every accepted text,
-- every n and the state after n steps (document 02, order 1). GroupGuaranteeHolds proves it. Stands on Group and on the steps.
use Rattle.std.specs.Prelude.{ℕ, ◌≡◌, List, T}
use Rattle.std.proofs.Math.Option.{some}
use Rattle.lists.specs.Contains.{contains}
use Rattle.lists.specs.In.{In}
use Rattle.sheet_rules.specs.declared.Verdict.TheVariants.{Accepted}
use Rattle.sheet_rules.specs.Sheet.{Sheet}
use Rattle.sheet_rules.specs.Reading.{readable, meaning}
use Rattle.type_rules.specs.Typing.{verdict}
use Rattle.machine_rules.specs.State.{State}
use Rattle.machine_rules.specs.Step.{Action, creates, calls, returns, step, next_step}
use Rattle.machine_rules.specs.Steps.{after}
use Rattle.authority_rules.specs.Authority.{is_resource, holder_of, top_holder, holds}
use Rattle.authority_rules.specs.Group.{group_holds}

-- h is a member of the group (order 1)
abbrev pub Member : List ℕ → ℕ → Type 0
Member hs h = In h hs

-- h is outside the group (order 1)
abbrev pub Outside : List ℕ → ℕ → Type 0
Outside hs h = Member hs h → ⊥

-- the ways in which a step from state σ may give resource b to a group; a step that only works has none. Top frame and authorities
-- are those of σ, before the step (order 1)
pub data GroupGain (s : Sheet) (σ : State) (hs : List ℕ) (b : ℕ) : Action → Type 0 where
  -- a creation by a member, which gets what was made
  by_member : {c : ℕ} {kept : List ℕ} → Member hs (top_holder s σ) → b ≡ c → GroupGain s σ hs b (creates c kept)
  -- a creation of a member, which gets itself
  of_member : {c : ℕ} {kept : List ℕ} → Member hs c → b ≡ c → GroupGain s σ hs b (creates c kept)
  -- a creation of a member, which gets a kept value from the maker's authority
  kept_by_member : {c : ℕ} {kept : List ℕ} → Member hs c → T (contains kept b) → T (holds s σ (top_holder s σ) b) → GroupGain s σ hs b (creates c kept)
  -- a call on a member, a resource: it gets the argument from the authority of a caller outside the group
  on_member : {receiver value : ℕ} → T (is_resource s σ.objects receiver) → Member hs receiver → b ≡ value → Outside hs (top_holder s σ)
      → T (holds s σ (top_holder s σ) b) → GroupGain s σ hs b (calls receiver value)
  -- a return of b to a member's code, from a frame of a resource outside the group, whose authority has b
  to_member : {value : ℕ} → T (is_resource s σ.objects (top_holder s σ)) → Outside hs (top_holder s σ) → b ≡ value
      → T (holds s σ (top_holder s σ) b) → Member hs (holder_of s σ.objects σ.below) → GroupGain s σ hs b (returns value)

-- every accepted text, every n, the state after n steps where there is one, and every list of numbers, of any length, made or not:
-- what no member held before a step, and some member holds after it, came in one of these ways (order 1)
abbrev pub GroupGuaranteed : Type 0
GroupGuaranteed = (text : List ℕ) (s : Sheet) → meaning text ≡ readable s → verdict text ≡ Accepted
    → (n : ℕ) (σ : State) → after s n ≡ some σ → (a : Action) (σ' : State) → next_step s σ ≡ step a σ'
    → (hs : List ℕ) (b : ℕ) → T (group_holds s σ' hs b) → (T (group_holds s σ hs b) → ⊥) → GroupGain s σ hs b a
