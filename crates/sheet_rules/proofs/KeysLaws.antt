-- Every key takes a number, and none takes more than nine; and what a line that stands at a place is. Assumes nothing.
use Prim.Native.Nat.{ℕ, ◌≤◌}
use mathlib.Core.Path.{◌≡◌, refl, sym, ap, ◌∙◌, subst}
use mathlib.Core.Bool.{◌&&◌}
use mathlib.Core.List.{List, [], ◌∷◌}
use lib.Dec.{T, eqb→eq, leb, leb→le}
use lib.ListN.{length, get_or}
use Rattle.lists.proofs.Tests.{and_left, and_right}
use Rattle.sheet_rules.specs.declared.MemberKind.{MemberKind}
use Rattle.sheet_rules.specs.declared.Operation.{Operation}
use Rattle.sheet_rules.specs.declared.MemberKind.TheVariants.{Method, Field}
use Rattle.sheet_rules.specs.declared.Operation.TheVariants.{New, Call, Get, Put, Copy}
use Rattle.sheet_rules.specs.declared.Place.{Place}
use Rattle.sheet_rules.specs.declared.Place.TheVariants.{Types, Row, Member, Forms, Form, Keep, Init, Body, Devices, Device, Main, Instruction, Nowhere}
use Rattle.sheet_rules.specs.Keys.{count_of, place_number, same_place, takes, stands, member_kind, operation_of}

-- the two tests at once, a line for each key
counts_within : (k : Place) → T (leb 1 (count_of k).fewest && leb (count_of k).most 9)
counts_within Types = tt
counts_within Row = tt
counts_within (Member Method) = tt
counts_within (Member Field) = tt
counts_within Forms = tt
counts_within Form = tt
counts_within Keep = tt
counts_within Init = tt
counts_within Body = tt
counts_within Devices = tt
counts_within Device = tt
counts_within Main = tt
counts_within (Instruction New) = tt
counts_within (Instruction Call) = tt
counts_within (Instruction Get) = tt
counts_within (Instruction Put) = tt
counts_within (Instruction Copy) = tt
counts_within Nowhere = tt

pub fewest_one : (k : Place) → 1 ≤ (count_of k).fewest
fewest_one k = leb→le 1 (count_of k).fewest (and_left (leb 1 (count_of k).fewest) (leb (count_of k).most 9) (counts_within k))

pub most_nine : (k : Place) → (count_of k).most ≤ 9
most_nine k = leb→le (count_of k).most 9 (and_right (leb 1 (count_of k).fewest) (leb (count_of k).most 9) (counts_within k))

-- WHERE A LINE STANDS

-- a place by its number, and by the kind of member and the operation that tell its keys apart
abbrev pub place_from : MemberKind → Operation → ℕ → Place
place_from m o n = get_or (Types ∷ Row ∷ Member m ∷ Forms ∷ Form ∷ Keep ∷ Init ∷ Body ∷ Devices ∷ Device ∷ Main ∷ Instruction o ∷ []) n Nowhere

place_from_lem : (k : Place) → place_from (member_kind k) (operation_of k) (place_number k) ≡ k
place_from_lem Types = refl
place_from_lem Row = refl
place_from_lem (Member m) = refl
place_from_lem Forms = refl
place_from_lem Form = refl
place_from_lem Keep = refl
place_from_lem Init = refl
place_from_lem Body = refl
place_from_lem Devices = refl
place_from_lem Device = refl
place_from_lem Main = refl
place_from_lem (Instruction o) = refl
place_from_lem Nowhere = refl

module _ (wanted k : Place) (ns : List ℕ) (t : T (stands wanted k ns)) where
  -- the line's place is the wanted one, but for which of its keys it is
  pub stands_place : k ≡ place_from (member_kind k) (operation_of k) (place_number wanted)
  stands_place =
      sym (place_from_lem k)
      ∙ ap (place_from (member_kind k) (operation_of k)) (eqb→eq (place_number k) (place_number wanted) (and_left (same_place k wanted) (takes k (length ns)) t))

  -- and it has as many numbers as its key asks for
  pub stands_count : ((count_of k).fewest ≤ length ns) × (length ns ≤ (count_of k).most)
  stands_count =
      let u = and_right (same_place k wanted) (takes k (length ns)) t in (
        leb→le (count_of k).fewest (length ns) (and_left (leb (count_of k).fewest (length ns)) (leb (length ns) (count_of k).most) u),
        leb→le (length ns) (count_of k).most (and_right (leb (count_of k).fewest (length ns)) (leb (length ns) (count_of k).most) u),
      )

  pub stands_fewest : {m : Place} → k ≡ m → (count_of m).fewest ≤ length ns
  stands_fewest e = subst (λ (x : Place). (count_of x).fewest ≤ length ns) e stands_count.0

  pub stands_most : {m : Place} → k ≡ m → length ns ≤ (count_of m).most
  stands_most e = subst (λ (x : Place). length ns ≤ (count_of x).most) e stands_count.1
