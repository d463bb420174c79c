-- Laws of the bound question: what it answers by the verdict, the stricter kind and main's amount; and that it answers exactly for the
-- accepted sheets of the stricter kind whose amount is within the limit. Assumes nothing.
use Prim.Native.Nat.{ℕ, ◌≤◌, ◌<◌}
use native.Mathlib.Omega.{arith}
use mathlib.Core.Path.{◌≡◌, refl, sym, ap, ◌∙◌}
use mathlib.Core.Bool.{Bool, true, false, cond}
use mathlib.Core.List.{List}
use mathlib.Core.Logic.{◌↔◌}
use lib.Dec.{leb}
use borrow.Author.Tests.{leb-true, le-leb, lt-leb}
use Rattle.lists.proofs.Tests.{clash}
use Rattle.sheet_rules.specs.declared.Reason.{Reason}
use Rattle.sheet_rules.specs.declared.Reason.TheVariants.{BeyondCount}
use Rattle.sheet_rules.specs.declared.Verdict.{Verdict}
use Rattle.sheet_rules.specs.declared.Verdict.TheVariants.{Accepted, Refused}
use Rattle.sheet_rules.specs.Sheet.{Sheet}
use Rattle.sheet_rules.specs.Reading.{Meaning, readable, unreadable, meaning}
use Rattle.sheet_rules.proofs.ReadingLaws.{readable-WellFormed}
use Rattle.type_rules.specs.Typing.{typing, verdict_on, verdict, if_accepted, accepted_on}
use Rattle.type_rules.proofs.VerdictLaws.{refused_on, accepted_on_lem}
use Rattle.sheet_rules.specs.Answers.{turned_away}
use Rattle.bound_rules.specs.Strict.{strictness, Strict}
use Rattle.bound_rules.specs.Amount.{main_amount}
use Rattle.bound_rules.specs.BoundQuestion.{amount_limit, counted, bound_in, bound_reply}
use Rattle.bound_rules.proofs.StrictLaws.{Strict-exactly}
use Rattle.std.specs.declared.result.Result.TheVariants.{Ok}

-- WHAT IS ANSWERED

-- an amount within the limit, and one over it
pub counted_within : {m : ℕ} → m ≤ amount_limit → counted m ≡ Ok m
counted_within {m} h = ap (λ (t : Bool). cond t (Ok m) (turned_away BeyondCount 0)) (le-leb m amount_limit h)

pub counted_over : {m : ℕ} → amount_limit < m → counted m ≡ turned_away BeyondCount 0
counted_over {m} h = ap (λ (t : Bool). cond t (Ok m) (turned_away BeyondCount 0)) (lt-leb m amount_limit h)

-- a sheet by whether it is of the stricter kind
pub strict_in : (s : Sheet) {m : ℕ} → strictness s ≡ Accepted → main_amount s ≡ m → bound_in s ≡ counted m
strict_in s e a = ap (if_accepted turned_away (counted (main_amount s))) e ∙ ap counted a

pub circular_in : (s : Sheet) {q : Reason} {l : ℕ} → strictness s ≡ Refused q l → bound_in s ≡ turned_away q l
circular_in s e = ap (if_accepted turned_away (counted (main_amount s))) e

-- a text that the verdict refuses is refused so, before any call is looked at; one that it accepts goes on with its sheet
pub reply_refused : (text : List ℕ) {q : Reason} {l : ℕ} → verdict text ≡ Refused q l → bound_reply text ≡ turned_away q l
unfolding bound_reply verdict
reply_refused text {q} {l} e = refused_on typing turned_away bound_in (meaning text) q l e

pub reply_accepted : (text : List ℕ) {s : Sheet} → meaning text ≡ readable s → verdict text ≡ Accepted → bound_reply text ≡ bound_in s
unfolding bound_reply verdict
reply_accepted text {s} e v = accepted_on_lem typing turned_away bound_in (meaning text) s e v

-- WHERE STEPS ARE ANSWERED

-- an accepted text of the stricter kind whose main can need m steps, within the limit
pub record StrictText (text : List ℕ) (m : ℕ) : Type 0 where
  pub sheet : Sheet
  pub read : meaning text ≡ readable sheet
  pub accepted : verdict text ≡ Accepted
  pub strict : Strict sheet
  pub is : m ≡ main_amount sheet
  pub within : m ≤ amount_limit

needs_within : {x m : ℕ} → counted x ≡ Ok m → (m ≡ x) × (m ≤ amount_limit)
needs_within {x} {m} e = go (leb x amount_limit) refl e
  where
    go : (t : Bool) → leb x amount_limit ≡ t → cond t (Ok x) (turned_away BeyondCount 0) ≡ Ok m → (m ≡ x) × (m ≤ amount_limit)
    go true q e = let same : m ≡ x = cc in (same, (let h = leb-true x amount_limit q in omega arith))
    go false q e = clash (cc)

-- the question answers m exactly for these
pub bound_exactly : (text : List ℕ) (m : ℕ) → (bound_reply text ≡ Ok m) ↔ StrictText text m
unfolding bound_reply verdict
bound_exactly text m = (λ e. from (meaning text) refl e, to)
  where
    strict-needs : (s : Sheet) → meaning text ≡ readable s → verdict_on typing (meaning text) ≡ Accepted → (v : Verdict) → strictness s ≡ v
        → if_accepted turned_away (counted (main_amount s)) v ≡ Ok m → StrictText text m
    strict-needs s e a Accepted q n =
        let h = needs_within n in
        record { sheet = s; read = e; accepted = a; strict = (Strict-exactly s (readable-WellFormed text s e)).0 q; is = h.0; within = h.1 }
    strict-needs s e a (Refused r l) q n = clash (cc)

    typed-needs : (s : Sheet) → meaning text ≡ readable s → (v : Verdict) → typing s ≡ v → if_accepted turned_away (bound_in s) v ≡ Ok m → StrictText text m
    typed-needs s e Accepted q n = strict-needs s e (ap (verdict_on typing) e ∙ q) (strictness s) refl n
    typed-needs s e (Refused r l) q n = clash (cc)

    from : (x : Meaning) → meaning text ≡ x → accepted_on typing turned_away bound_in x ≡ Ok m → StrictText text m
    from (readable s) e n = typed-needs s e (typing s) refl n
    from (unreadable r l) e n = clash (cc)

    to : StrictText text m → accepted_on typing turned_away bound_in (meaning text) ≡ Ok m
    to a =
        accepted_on_lem typing turned_away bound_in (meaning text) a.sheet a.read a.accepted
        ∙ strict_in a.sheet ((Strict-exactly a.sheet (readable-WellFormed text a.sheet a.read)).1 a.strict) (sym a.is)
        ∙ counted_within a.within
