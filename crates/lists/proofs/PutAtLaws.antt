-- Laws of `put_at`. Assumes nothing.
use Prim.Native.Nat.{ℕ, ◌+◌, ◌≤◌}
use mathlib.Core.Path.{◌≡◌, sym, ap, ◌∙◌}
use mathlib.Core.List.{List, ◌++◌, append_assoc}
use lib.ListN.{length, take, drop, length-append}
use lib.Seq.{length-take-le, take_at, drop_at, drop-drop}
use Rattle.lists.specs.PutAt.{begun, put_at}

module _ {A : Type 0} where
  -- one put after another is one put
  pub put_put : (at : ℕ) (xs ys zs : List A) (r : ℕ) → at ≤ length zs → r ≡ at + length xs → put_at r ys (put_at at xs zs) ≡ put_at at (xs ++ ys) zs
  put_put at xs ys zs r h e =
      ap (put_at r ys) (sym (append_assoc (take at zs) xs rest))
      ∙ (λ i. take_at front rest r size i ++ begun ys (drop_at front rest r size i))
      ∙ append_assoc (take at zs) xs (ys ++ drop (length ys) rest)
      ∙ ap (λ (z : List A). take at zs ++ z)
      (sym (append_assoc xs ys (drop (length ys) rest))
      ∙ ap (λ (z : List A). (xs ++ ys) ++ z) (drop-drop (length ys) (length xs) (drop at zs) ∙ ap (λ (m : ℕ). drop m (drop at zs)) (sym (length-append xs ys))))
    where
      rest : List A
      rest = drop (length xs) (drop at zs)

      front : List A
      front = take at zs ++ xs

      size : length front ≡ r
      size = length-append (take at zs) xs ∙ ap (λ (n : ℕ). n + length xs) (length-take-le at zs h) ∙ sym e
