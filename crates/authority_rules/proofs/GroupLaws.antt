-- Laws of groups: their authority is ascending without repeats and has exactly what some member holds; the empty list, a list of one,
-- and lists with the same members. Assumes nothing.
use Prim.Native.Nat.{ℕ, ◌≤◌, ◌<◌, min}
use native.Mathlib.Omega.{arith}
use native.Mathlib.Decide.{dec_le}
use mathlib.Core.Path.{◌≡◌, sym, ap, ◌∙◌}
use mathlib.Core.Bool.{Bool, false, cond, ◌&&◌, ◌||◌, or-false, and-true}
use mathlib.Core.List.{List, [], ◌∷◌}
use lib.ListN.{length}
use borrow.Author.Tests.{le-leb, ne_eqb}
use Rattle.lists.specs.In.{In}
use Rattle.lists.specs.AnyAll.{any, all}
use Rattle.lists.specs.Contains.{contains}
use Rattle.lists.specs.Passing.{passing}
use Rattle.lists.proofs.AnyAllLaws.{any-In, any_same, all_same}
use Rattle.lists.proofs.PassingLaws.{Ascending, passing-Ascending, passing_exactly, passing_same, passing_none}
use Rattle.lists.proofs.Tests.{T-ext}
use Rattle.sheet_rules.specs.declared.Reason.TheVariants.{NoHolder}
use Rattle.sheet_rules.specs.declared.Verdict.TheVariants.{Accepted}
use Rattle.sheet_rules.specs.Limits.{store_limit}
use Rattle.sheet_rules.specs.Sheet.{Sheet}
use Rattle.sheet_rules.specs.Reading.{readable, meaning}
use Rattle.type_rules.specs.Typing.{typing, verdict_on, accepted_on, verdict}
use Rattle.type_rules.proofs.TypedLaws.{accepted_sheet}
use Rattle.type_rules.proofs.VerdictLaws.{same_on}
use Rattle.machine_rules.specs.State.{Object, State}
use Rattle.machine_rules.specs.Steps.{run}
use Rattle.machine_rules.proofs.StepsLaws.{run-Ends}
use Rattle.machine_rules.proofs.SoundLaws.{after-Sound}
use Rattle.authority_rules.specs.Authority.{main_holder, is_resource, is_holder, holds, authority}
use Rattle.authority_rules.specs.AuthorityQuestion.{held, not_held, held_in, authority_held}
use Rattle.authority_rules.specs.Group.{group_holds, group_authority, group_limit, group_in, group_held}
use Rattle.authority_rules.proofs.AuthorityLaws.{resource_below, held_below}

-- WHAT A GROUP HOLDS

module _ (s : Sheet) (σ : State) where
  -- the numbers of a group's authority ascend, and none stands twice
  pub group_ascending : (hs : List ℕ) → Ascending 0 (group_authority s σ hs)
  unfolding group_authority
  group_ascending hs = passing-Ascending (group_holds s σ hs) 0 (length σ.objects)

  -- a number is in a group's authority exactly when some member holds it
  pub group_holds_lem : (hs : List ℕ) (b : ℕ) → contains (group_authority s σ hs) b ≡ any (λ h. holds s σ h b) hs
  unfolding group_authority group_holds
  group_holds_lem hs b =
      passing_exactly (group_holds s σ hs) (length σ.objects) b
      (λ t. let f = any-In (λ h. holds s σ h b) hs t in held_below s σ f.0 b f.2)

  -- THE EMPTY LIST, AND A LIST OF ONE

  -- an empty list is a group, which holds nothing
  pub group_none : group_in s σ [] ≡ held []
  unfolding group_authority group_holds any all
  group_none = ap held (passing_none 0 (length σ.objects))

  -- a list of one holder has that holder's authority
  pub authority_one : (h : ℕ) → group_authority s σ (h ∷ []) ≡ authority s σ h
  unfolding group_authority group_holds any authority
  authority_one h = passing_same (group_holds s σ (h ∷ [])) (holds s σ h) 0 (length σ.objects) (λ b l u. or-false (holds s σ h b))

  pub group_one : (h : ℕ) → group_in s σ (h ∷ []) ≡ held_in s σ h
  unfolding all
  group_one h i = cond (and-true (is_holder s σ.objects h) i) (held (authority_one h i)) (not_held NoHolder 0)

  -- LISTS WITH THE SAME MEMBERS

  -- the order of a list has no influence, and a holder named twice counts once
  pub group_same : (hs gs : List ℕ) → ((h : ℕ) → In h hs → In h gs) → ((h : ℕ) → In h gs → In h hs) → length hs ≤ group_limit → length gs ≤ group_limit → group_in s σ hs ≡ group_in s σ gs
  unfolding group_authority group_holds
  group_same hs gs to from few few' i =
      cond ((le-leb (length hs) group_limit few ∙ sym (le-leb (length gs) group_limit few')) i && all_same (is_holder s σ.objects) hs gs to from i)
      (held (passing (λ b. any_same (λ h. holds s σ h b) hs gs to from i) 0 (length σ.objects))) (not_held NoHolder 0)

-- THE QUESTION

-- of a text: an empty list is answered with nothing, once the sheet is accepted
pub none_held : (text : List ℕ) (budget : ℕ) → group_held text budget [] ≡ accepted_on typing not_held (λ s. held []) (meaning text)
unfolding group_held
none_held text budget i = accepted_on typing not_held (λ s. group_none s (run s budget).last i) (meaning text)

-- and a list of one holder as the authority question answers
pub one_held : (text : List ℕ) (budget h : ℕ) → group_held text budget (h ∷ []) ≡ authority_held text budget h
unfolding group_held authority_held
one_held text budget h i = accepted_on typing not_held (λ s. group_one s (run s budget).last h i) (meaning text)

-- NUMBERS OVER 256

-- a store has at most 256 objects, so no number over 256 is a holder
over_not_holder : (s : Sheet) (os : List Object) (h : ℕ) → length os ≤ store_limit → main_holder < h → is_holder s os h ≡ false
over_not_holder s os h few l =
    ap (λ (b : Bool). b || is_resource s os h) (ne_eqb h main_holder (λ e. omega arith))
    ∙ T-ext (is_resource s os h) false (λ t. absurd (omega (arith, resource_below s os h t))) (λ t. absurd t)

-- the authority question answers alike for all numbers over 256
over_held : (text : List ℕ) (budget g h : ℕ) → main_holder < g → main_holder < h → authority_held text budget g ≡ authority_held text budget h
unfolding authority_held verdict
over_held text budget g h lg lh =
    same_on typing not_held (λ s. held_in s (run s budget).last g) (meaning text) (λ s. held_in s (run s budget).last h)
    (λ s e v. refused s e v g lg ∙ sym (refused s e v h lh))
  where
    refused : (s : Sheet) → meaning text ≡ readable s → verdict_on typing (meaning text) ≡ Accepted → (x : ℕ) → main_holder < x → held_in s (run s budget).last x ≡ not_held NoHolder 0
    refused s e v x l =
        let w = accepted_sheet text s e v in
        let c = after-Sound s w.0 w.1 (run s budget).steps (run s budget).last (run-Ends s budget).reached in
        ap (λ (b : Bool). cond b (held (authority s (run s budget).last x)) (not_held NoHolder 0)) (over_not_holder s (run s budget).last.objects x c.places l)

-- so the authority question about h is the question about a list of one number that is at most 257
pub listed_held : (text : List ℕ) (budget h : ℕ) → group_held text budget (min h 257 ∷ []) ≡ authority_held text budget h
listed_held text budget h = one_held text budget (min h 257) ∙ go (dec_le h main_holder)
  where
    go : Dec (h ≤ main_holder) → authority_held text budget (min h 257) ≡ authority_held text budget h
    go (yes l) = ap (authority_held text budget) (omega arith)
    go (no l) = over_held text budget (min h 257) h (omega arith) (omega arith)
