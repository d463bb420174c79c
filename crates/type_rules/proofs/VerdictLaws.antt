-- What goes on from the verdict: laws of accepted_on, for every judge of sheets. Assumes nothing.
use Prim.Native.Nat.{ℕ}
use mathlib.Core.Path.{◌≡◌, refl, sym, ap, ◌∙◌}
use Rattle.sheet_rules.specs.declared.Reason.{Reason}
use Rattle.sheet_rules.specs.declared.Verdict.{Verdict}
use Rattle.sheet_rules.specs.declared.Verdict.TheVariants.{Accepted, Refused}
use Rattle.sheet_rules.specs.Sheet.{Sheet}
use Rattle.sheet_rules.specs.Reading.{Meaning, readable, unreadable}
use Rattle.type_rules.specs.Typing.{verdict_on, if_accepted, accepted_on}

module _ {A : Type 0} (judge : Sheet → Verdict) (refused : Reason → ℕ → A) (answer : Sheet → A) (m : Meaning) where
  -- a text that the verdict refuses is refused so
  pub refused_on : (q : Reason) (l : ℕ) → verdict_on judge m ≡ Refused q l → accepted_on judge refused answer m ≡ refused q l
  refused_on q l e = go m e
    where
      go : (x : Meaning) → verdict_on judge x ≡ Refused q l → accepted_on judge refused answer x ≡ refused q l
      go (readable s) v = ap (if_accepted refused (answer s)) v
      go (unreadable p n) v = ap (if_accepted refused (refused p n)) v

  -- one that it accepts goes on with its sheet
  pub accepted_on_lem : (s : Sheet) → m ≡ readable s → verdict_on judge m ≡ Accepted → accepted_on judge refused answer m ≡ answer s
  accepted_on_lem s e v = ap (accepted_on judge refused answer) e ∙ ap (if_accepted refused (answer s)) (ap (verdict_on judge) (sym e) ∙ v)

  -- two answers that agree on every sheet that it accepts are the same on the text
  pub same_on : (other : Sheet → A) → ((s : Sheet) → m ≡ readable s → verdict_on judge m ≡ Accepted → answer s ≡ other s) → accepted_on judge refused answer m ≡ accepted_on judge refused other m
  same_on other same = go m refl
    where
      judged : (s : Sheet) → m ≡ readable s → (v : Verdict) → judge s ≡ v → if_accepted refused (answer s) v ≡ if_accepted refused (other s) v
      judged s e Accepted p = same s e (ap (verdict_on judge) e ∙ p)
      judged s e (Refused q l) p = refl

      go : (x : Meaning) → m ≡ x → accepted_on judge refused answer x ≡ accepted_on judge refused other x
      go (readable s) e = judged s e (judge s) refl
      go (unreadable q l) e = refl
