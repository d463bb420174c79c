-- Small sheets for the cases of authority, and the sheet that a text means. Proves nothing.
use Prim.Native.String.{String}
use mathlib.Core.List.{List, [], ◌∷◌, ◌++◌}
use Rattle.sheet_rules.specs.Sheet.{Sheet}
use Rattle.sheet_rules.specs.Reading.{Meaning, readable, unreadable}

-- the sheet that was read; an empty one where there is none
unfoldable pub sheet_of : Meaning → Sheet
sheet_of (readable s) = s
sheet_of (unreadable r n) = record { rows = []; forms = []; devices = []; main = [] }

-- A CLERK

-- rows 0 pure empty, 1 resource empty, 2 resource with one method; forms 0 and 1 of rows 0 and 1, and a clerk's of row 2
abbrev clerk_sheet : (method : String) (form main : List String) → List String
clerk_sheet method form main =
    "types=3"
    ∷ "type=0,0"
    ∷ "type=1,0"
    ∷ "type=1,1"
    ∷ method
    ∷ "forms=3"
    ∷ "form=0,0"
    ∷ "form=1,0"
    ∷ (form ++ main)

-- a clerk that gives its argument back
abbrev clerk : List String
clerk = "form=2,0" ∷ "body=1" ∷ "copy=1" ∷ []

-- main ends with the second of two resources
abbrev pub two : List String
two = clerk_sheet "def=1,0,0" clerk ("main=2" ∷ "new=1" ∷ "new=1" ∷ [])

-- a resource is made, copied and left
abbrev pub left : List String
left = clerk_sheet "def=1,0,0" clerk ("main=4" ∷ "new=1" ∷ "new=0" ∷ "copy=0" ∷ "copy=1" ∷ [])

-- main calls clerk 2, and copies resource 1 after it
abbrev pub errand : List String
errand = clerk_sheet "def=1,0,0" clerk ("main=5" ∷ "new=0" ∷ "new=1" ∷ "new=2" ∷ "call=2,1,0" ∷ "copy=1" ∷ [])

-- main's last instruction is a call of clerk 1; resource 2 is in the last slot before it
abbrev pub farewell : List String
farewell = clerk_sheet "def=1,0,0" clerk ("main=4" ∷ "new=0" ∷ "new=2" ∷ "new=1" ∷ "call=1,1,0" ∷ [])

-- clerk 2 keeps resource 1, and its body does not name it (examples/idle.sheet)
abbrev pub idle : List String
idle = clerk_sheet "def=1,0,0" ("form=2,1" ∷ "keep=1" ∷ "body=1" ∷ "copy=1" ∷ []) ("main=4" ∷ "new=0" ∷ "new=1" ∷ "new=2,1" ∷ "call=2,1,0" ∷ [])

-- the body of clerk 2 names a slot that it fills itself; object 0 is a resource
abbrev pub twice : List String
twice = clerk_sheet "def=1,0,0" ("form=2,0" ∷ "body=2" ∷ "copy=1" ∷ "copy=2" ∷ []) ("main=4" ∷ "new=1" ∷ "new=0" ∷ "new=2" ∷ "call=2,1,1" ∷ [])

-- clerk 1 makes resource 2 and gives it to main, which leaves it
abbrev pub gift : List String
gift = clerk_sheet "def=1,0,1" ("form=2,0" ∷ "body=1" ∷ "new=1" ∷ []) ("main=4" ∷ "new=0" ∷ "new=2" ∷ "call=1,1,0" ∷ "copy=0" ∷ [])

-- A KEEPER

-- a pure object's method makes a resource, hands it to a keeper that puts it in its field, and gives a pure value back.
-- Rows 0 pure empty, 1 resource empty, 2 resource `var=1,1`, `def=2,1,0`, 3 pure `def=1,2,0`.
-- Objects 0 pure, 1 resource, 2 keeper of 1, which `init` alone names, 3 pure maker, 4 the resource that 3 makes
abbrev pub pantry : List String
pantry =
    "types=4"
    ∷ "type=0,0"
    ∷ "type=1,0"
    ∷ "type=1,2"
    ∷ "var=1,1"
    ∷ "def=2,1,0"
    ∷ "type=0,1"
    ∷ "def=1,2,0"
    ∷ "forms=4"
    ∷ "form=0,0"
    ∷ "form=1,0"
    ∷ "form=2,2"
    ∷ "keep=1"
    ∷ "keep=0"
    ∷ "init=0"
    ∷ "body=2"
    ∷ "put=1,1"
    ∷ "copy=3"
    ∷ "form=3,0"
    ∷ "body=2"
    ∷ "new=1"
    ∷ "call=1,2,2"
    ∷ "main=5"
    ∷ "new=0"
    ∷ "new=1"
    ∷ "new=2,1,0"
    ∷ "new=3"
    ∷ "call=3,1,2"
    ∷ []

-- two makers keep one valve; each, when called, makes a device and puts it in its field (examples/makers.sheet).
-- Rows 0 pure empty, 1 resource empty, 2 resource `var=1,1`, `def=2,0,0`.
-- Objects 0 pure, 1 the valve, which `init` alone names, 2 and 3 the makers, 4 and 5 what they make
abbrev pub makers : List String
makers =
    "types=3"
    ∷ "type=0,0"
    ∷ "type=1,0"
    ∷ "type=1,2"
    ∷ "var=1,1"
    ∷ "def=2,0,0"
    ∷ "forms=3"
    ∷ "form=0,0"
    ∷ "form=1,0"
    ∷ "form=2,1"
    ∷ "keep=1"
    ∷ "init=0"
    ∷ "body=3"
    ∷ "new=1"
    ∷ "put=1,3"
    ∷ "copy=1"
    ∷ "main=6"
    ∷ "new=0"
    ∷ "new=1"
    ∷ "new=2,1"
    ∷ "new=2,1"
    ∷ "call=2,2,0"
    ∷ "call=3,2,0"
    ∷ []
