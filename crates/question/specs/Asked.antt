-- What every question promises of its reply and its buffers (document 01, Turned away), for any type of replies and any element of
-- the result. Stands on Cleared and on the table's layout.
use Rattle.std.specs.Prelude.{ℕ, ◌≡◌, Bool, cond, ◌&&◌, List, [], leb, length}
use Rattle.std.specs.Borrow.{MutBor}
use Rattle.std.specs.Fn.{Once}
use Rattle.lists.specs.PutAt.{begun}
use Rattle.table.specs.Layout.{work_size}
use Rattle.table.specs.Only.{Only}
use Rattle.question.specs.Cleared.{cleared}

-- a reply before the work buffer is cleared: what is written stands at the start of the result buffer, whose later places keep
-- their content
pub record Told {A B : Type 0} (reply : A) (output : List B) (w : List ℕ) (result : List B) (w' : List ℕ) (result' : List B) (r : A) : Type 0 where
  pub same : r ≡ reply
  pub written : result' ≡ begun output result
  pub only : Only 0 work_size w w'

-- the work buffer is long enough, and so is the result buffer (document 01, Turned away, 1)
abbrev pub enough : {B : Type 0} → ℕ → List ℕ → List B → Bool
enough size w result = leb work_size (length w) && leb size (length result)

-- the promise: the rule's reply with its output at the start of the result buffer, and the work buffer cleared; in buffers that are
-- too short the refusal that comes before all others, and both as they were
pub record Asked {A B : Type 0} (size : ℕ) (reply short : A) (output : List B) (w : List ℕ) (result : List B) (w' : List ℕ) (result' : List B) (r : A) : Type 0 where
  pub told : r ≡ cond (enough size w result) reply short
  pub written : result' ≡ cond (enough size w result) (begun output result) result
  pub left : w' ≡ cond (enough size w result) (cleared w) w

-- a question without a result buffer: one that is empty, and in which nothing is written

abbrev pub ToldAlone : {A : Type 0} → A → (w w' : List ℕ) → A → Type 0
ToldAlone reply w w' r = Told {B = ℕ} reply [] w [] w' [] r

abbrev pub AskedAlone : {A : Type 0} → (reply short : A) → (w w' : List ℕ) → A → Type 0
AskedAlone reply short w w' r = Asked {B = ℕ} 0 reply short [] w [] w' [] r

-- HOW IT IS ASKED

-- a call of f that is lent two buffers may answer r: their content before it, and after
pub record AnswersInto {F A : Type 0} (g : Once F (MutBor (List ℕ) × (MutBor (List ℕ) × Unit {0})) (A × (MutBor (List ℕ) × (MutBor (List ℕ) × Unit {0})))) (f : F) (w result : List ℕ) (r : A) (w' result' : List ℕ) : Type 0 where
  pub lent : MutBor (List ℕ) × MutBor (List ℕ)
  pub lends : (lent.0.now ≡ w) × (lent.1.now ≡ result)
  pub left : MutBor (List ℕ) × MutBor (List ℕ)
  pub met : g.post f (lent.0, (lent.1, tt)) (r, (left.0, (left.1, tt)))
  pub leaves : (left.0.now ≡ w') × (left.1.now ≡ result')
