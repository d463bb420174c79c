-- The keys: how each is spelled, how many numbers follow it, and where it may stand (document 01, The sheet; document 02, order 7).
-- Stands on the shared types and the characters' numbers.
use Rattle.std.specs.Prelude.{ℕ, Bool, true, false, ◌&&◌, cond, List, [], ◌∷◌, eqb, leb, length}
use Prim.Native.Char.{code}
use Prim.Native.String.{String}
use Rattle.sheet_rules.specs.declared.MemberKind.{MemberKind}
use Rattle.sheet_rules.specs.declared.MemberKind.TheVariants.{Method, Field}
use Rattle.sheet_rules.specs.declared.Operation.{Operation}
use Rattle.sheet_rules.specs.declared.Operation.TheVariants.{New, Call, Get, Put, Copy}
use Rattle.sheet_rules.specs.declared.Place.{Place}
use Rattle.sheet_rules.specs.declared.Place.TheVariants.{Types, Row, Member, Forms, Form, Keep, Init, Body, Devices, Device, Main, Instruction, Nowhere}

-- the bytes of a quoted text; every character that stands in this crate is a single byte (The sheet)
unfoldable pub bytes : String → List ℕ
bytes String.[] = []
bytes (String.◌∷◌ c s) = code c ∷ bytes s

-- how many numbers may follow a key (The sheet)
pub record Count : Type 0 where
  pub fewest : ℕ
  pub most : ℕ

-- n numbers, no more and no fewer (The sheet)
abbrev pub exactly : ℕ → Count
exactly n = record { fewest = n; most = n }

-- a key: its word, and how many numbers follow it (The sheet)
pub record Key : Type 0 where
  pub word : String
  pub count : Count

-- a key of that word and count (The sheet)
abbrev pub key : String → Count → Key
key w c = record { word = w; count = c }

-- the key that may stand at a place; `new` has its form and up to 8 slots, and no word and no count suits a line that may stand
-- nowhere (The sheet)
abbrev pub key_at : Place → Key
key_at Types = key "types" (exactly 1)
key_at Row = key "type" (exactly 2)
key_at (Member Method) = key "def" (exactly 3)
key_at (Member Field) = key "var" (exactly 2)
key_at Forms = key "forms" (exactly 1)
key_at Form = key "form" (exactly 2)
key_at Keep = key "keep" (exactly 1)
key_at Init = key "init" (exactly 1)
key_at Body = key "body" (exactly 1)
key_at Devices = key "devices" (exactly 1)
key_at Device = key "device" (exactly 1)
key_at Main = key "main" (exactly 1)
key_at (Instruction New) = key "new" (record { fewest = 1; most = 9 })
key_at (Instruction Call) = key "call" (exactly 3)
key_at (Instruction Get) = key "get" (exactly 1)
key_at (Instruction Put) = key "put" (exactly 2)
key_at (Instruction Copy) = key "copy" (exactly 1)
key_at Nowhere = key "" (record { fewest = 1; most = 0 })

-- every place that a key has (The sheet)
abbrev pub all_places : List Place
all_places =
    Types
    ∷ Row
    ∷ Member Method
    ∷ Member Field
    ∷ Forms
    ∷ Form
    ∷ Keep
    ∷ Init
    ∷ Body
    ∷ Devices
    ∷ Device
    ∷ Main
    ∷ Instruction New
    ∷ Instruction Call
    ∷ Instruction Get
    ∷ Instruction Put
    ∷ Instruction Copy
    ∷ []

-- the word of the key at a place (The sheet)
abbrev pub spelling : Place → List ℕ
spelling k = bytes (key_at k).word

-- the key decides how many numbers follow (The sheet)
abbrev pub count_of : Place → Count
count_of k = (key_at k).count

-- two lists of bytes are the same (The sheet)
unfoldable pub same_bytes : List ℕ → List ℕ → Bool
same_bytes [] [] = true
same_bytes [] (c ∷ cs) = false
same_bytes (b ∷ bs) [] = false
same_bytes (b ∷ bs) (c ∷ cs) = eqb b c && same_bytes bs cs

-- the first of some places whose key a word spells (The sheet)
unfoldable pub place_among : List Place → List ℕ → Place
place_among [] w = Nowhere
place_among (k ∷ ks) w = cond (same_bytes (spelling k) w) k (place_among ks w)

-- where a line of a word may stand (The sheet)
abbrev pub place_of : List ℕ → Place
place_of w = place_among all_places w

-- a number for each place, so that two can be compared; which of a place's keys it is makes no difference (The sheet)
abbrev pub place_number : Place → ℕ
place_number Types = 0
place_number Row = 1
place_number (Member kind) = 2
place_number Forms = 3
place_number Form = 4
place_number Keep = 5
place_number Init = 6
place_number Body = 7
place_number Devices = 8
place_number Device = 9
place_number Main = 10
place_number (Instruction operation) = 11
place_number Nowhere = 12

-- two places are the same, whichever of its keys it is (The sheet)
abbrev pub same_place : Place → Place → Bool
same_place a b = eqb (place_number a) (place_number b)

-- n numbers may follow the key of place k (The sheet)
abbrev pub takes : Place → ℕ → Bool
takes k n = leb (count_of k).fewest n && leb n (count_of k).most

-- the line has a key of the wanted place, with as many numbers as that key asks for (The sheet)
abbrev pub stands : Place → Place → List ℕ → Bool
stands wanted k ns = same_place k wanted && takes k (length ns)

-- which kind of member a key of that place makes; no other place is asked (The sheet)
abbrev pub member_kind : Place → MemberKind
member_kind (Member kind) = kind
member_kind Types = Field
member_kind Row = Field
member_kind Forms = Field
member_kind Form = Field
member_kind Keep = Field
member_kind Init = Field
member_kind Body = Field
member_kind Devices = Field
member_kind Device = Field
member_kind Main = Field
member_kind (Instruction operation) = Field
member_kind Nowhere = Field

-- what a key of an instruction's place does; no other place is asked (The sheet)
abbrev pub operation_of : Place → Operation
operation_of (Instruction operation) = operation
operation_of Types = Copy
operation_of Row = Copy
operation_of (Member kind) = Copy
operation_of Forms = Copy
operation_of Form = Copy
operation_of Keep = Copy
operation_of Init = Copy
operation_of Body = Copy
operation_of Devices = Copy
operation_of Device = Copy
operation_of Main = Copy
operation_of Nowhere = Copy
