-- What is wrong with a case file, in the words of the file: when it has each fault, and which of its faults is told.
use Rattle.std.specs.Prelude.{ℕ, ◌≡◌, ◌≢◌, ◌⊎◌, ◌<◌, ◌≤◌, ◌%◌, List, [], ◌∷◌, map, length, slice_index, ⊤, ℤ, pos, ◌≤ℤ◌, ◌<ℤ◌, ◌*ℤ◌, unsigned_abs, Option, Some, None, MatchOption, Contains}
use Rattle.std.specs.Str.{chars}
use Rattle.std.specs.Ordering.{nat_cmp}
use Rattle.std.specs.declared.cmp.Ordering.TheVariants.{Less}
use Rattle.std.specs.Cmp.Lexicographic.{slice_cmp}
use Rattle.toml.specs.Data.{Data, string, integer, array, Members}
use Rattle.toml.specs.View.{items_of}
use Rattle.lbm_space.specs.Limits.{greatest_side}
use Rattle.lbm_space.specs.Torus.{IsSpace}
use Rattle.lbm_cell.specs.Limits.{least_density, greatest_density, greatest_first_momentum, greatest_rate, greatest_force}
use Rattle.lbm_model.specs.Sets.{stencil_of, name_of as set_name}
use Rattle.lbm_model.specs.declared.sets.SetKind.{SetKind}
use Rattle.lbm_model.specs.declared.sets.SetKind.TheVariants.{D2Q9}
use Rattle.lbm_case.specs.declared.key.Key.{Key}
use Rattle.lbm_case.specs.declared.key.Key.TheVariants.{Set, Omega, Map, Layers, Density, Digit, Momentum, Force, OmegaMinus, Wall}
use Rattle.lbm_case.specs.declared.fault.CaseFault.{CaseFault}
use Rattle.lbm_case.specs.declared.fault.CaseFault.TheVariants.{NotToml, UnknownKey, MissingKey, WrongKind, BadNumber, BadSet, EmptyMap, Ragged, BadChar, TooLarge}
use Rattle.lbm_case.specs.Limits.{greatest_digit}
use Rattle.lbm_case.specs.Keys.{name_of}
use Rattle.lbm_case.specs.Settings.{names_in, value_at}
use Rattle.lbm_case.specs.Drawing.{hash, equals, dot, row, width, box_of}
use Rattle.lbm_case.specs.CaseOf.{table_of}

-- ---- what a document says

-- an array of integers, and one of texts
abbrev pub integers : List ℤ → Data
integers numbers = array (items_of (map integer numbers))

abbrev pub texts : List (List ℕ) → Data
texts lines = array (items_of (map string lines))

-- the document names this velocity set
abbrev pub NamesSet : Members → SetKind → Type 0
NamesSet table set = value_at Set table ≡ Some (string (set_name set))

-- the map of the document has these rows of characters
abbrev pub HasRows : Members → List (List ℕ) → Type 0
HasRows table rows = (lines : List (List ℕ)) × (value_at Map table ≡ Some (texts lines)) × (rows ≡ map chars lines)

-- it is drawn in so many layers: 1 where the key is absent
abbrev pub HasLayers : Members → ℕ → Type 0
HasLayers table n = (value_at Layers table ≡ Some (integer (pos n))) ⊎ ((value_at Layers table ≡ None) × (n ≡ 1))

-- ---- the kind of each key

abbrev pub IsText : Data → Type 0
IsText value = (text : List ℕ) × (value ≡ string text)

abbrev pub IsInteger : Data → Type 0
IsInteger value = (n : ℤ) × (value ≡ integer n)

abbrev pub IsTexts : Data → Type 0
IsTexts value = (lines : List (List ℕ)) × (value ≡ texts lines)

abbrev pub IsPair : Data → Type 0
IsPair value = (p : ℤ) × (q : ℤ) × (value ≡ integers (p ∷ q ∷ []))

abbrev pub IsTriple : Data → Type 0
IsTriple value = (x : ℤ) × (y : ℤ) × (z : ℤ) × (value ≡ integers (x ∷ y ∷ z ∷ []))

abbrev pub IsOfKind : Key → Data → Type 0
IsOfKind Set value = IsText value
IsOfKind Omega value = IsPair value
IsOfKind Map value = IsTexts value
IsOfKind Layers value = IsInteger value
IsOfKind Density value = IsInteger value
IsOfKind Digit value = IsInteger value
IsOfKind Momentum value = IsTriple value
IsOfKind Force value = IsTriple value
IsOfKind OmegaMinus value = IsInteger value
IsOfKind Wall value = IsTriple value

-- ---- the range of the numbers at each key

abbrev pub IsBetween : ℤ → ℤ → ℤ → Type 0
IsBetween low high n = (low ≤ℤ n) × (n ≤ℤ high)

-- an integer from low to high
abbrev pub IsIntegerBetween : ℤ → ℤ → Data → Type 0
IsIntegerBetween low high value = (n : ℤ) → value ≡ integer n → IsBetween low high n

-- n / q is a rate: n is from 1 to the greatest, and below twice q
abbrev pub IsRate : ℤ → ℤ → Type 0
IsRate n q = IsBetween (pos 1) (pos greatest_rate) n × (n <ℤ (pos 2 *ℤ q))

-- three numbers of at most this size, of which the third is 0 in the plane
abbrev pub IsVector : Members → ℕ → Data → Type 0
IsVector table size value = (x y z : ℤ) → value ≡ integers (x ∷ y ∷ z ∷ [])
    → (unsigned_abs x ≤ size) × (unsigned_abs y ≤ size) × (unsigned_abs z ≤ size) × (NamesSet table D2Q9 → z ≡ pos 0)

abbrev pub IsInRange : Members → Key → Data → Type 0
IsInRange table Set value = ⊤
IsInRange table Omega value = (p q : ℤ) → value ≡ integers (p ∷ q ∷ []) → IsBetween (pos 1) (pos greatest_rate) q × IsRate p q
IsInRange table Map value = ⊤
IsInRange table Layers value = (n : ℤ) → value ≡ integer n → IsBetween (pos 1) (pos greatest_side) n × (NamesSet table D2Q9 → n ≡ pos 1)
IsInRange table Density value = IsIntegerBetween (pos least_density) (pos greatest_density) value
IsInRange table Digit value = IsIntegerBetween (pos 0) (pos greatest_digit) value
IsInRange table Momentum value = IsVector table greatest_first_momentum value
IsInRange table Force value = IsVector table greatest_force value
IsInRange table OmegaMinus value = (m p q : ℤ) → value ≡ integer m → value_at Omega table ≡ Some (integers (p ∷ q ∷ [])) → IsRate m q
IsInRange table Wall value = IsVector table greatest_force value

-- ---- the drawing

-- a character stands for a cell: a dot, a wall at rest or in motion, or a digit 0 to 9
abbrev pub IsCell : ℕ → Type 0
IsCell c = (c ≡ dot) ⊎ ((c ≡ hash) ⊎ ((c ≡ equals) ⊎ ((48 ≤ c) × (c ≤ 57))))

-- row r has another number of characters than the first row
abbrev pub IsOtherRow : List (List ℕ) → ℕ → Type 0
IsOtherRow rows r = (r < length rows) × (length (row rows r) ≢ width rows)

-- the layers do not divide the number of rows, which is r
abbrev pub IsUndivided : Members → List (List ℕ) → ℕ → Type 0
IsUndivided table rows r = (r ≡ length rows) × (layers : ℕ) × HasLayers table layers × (r % layers ≢ 0)

-- what stands in row r and column c is no cell
abbrev pub IsStrangeAt : List (List ℕ) → ℕ → ℕ → Type 0
IsStrangeAt rows r c = (r < length rows) × (c < length (row rows r)) × ¬ IsCell (slice_index (row rows r) c)

-- ---- the faults

-- a key that is none of the ten
abbrev pub IsUnknown : Members → List ℕ → Type 0
IsUnknown table name = Contains (names_in table) name × ((key : Key) → name ≢ name_of key)

abbrev pub IsRequired : Key → Type 0
IsRequired key = (key ≡ Set) ⊎ ((key ≡ Omega) ⊎ (key ≡ Map))

-- the faults of a document
abbrev pub HasFault : Members → CaseFault → Type 0
HasFault table NotToml = ⊥
HasFault table (UnknownKey name) = IsUnknown table name
HasFault table (MissingKey key) = IsRequired key × (value_at key table ≡ None)
HasFault table (WrongKind key) = (value : Data) × (value_at key table ≡ Some value) × ¬ IsOfKind key value
HasFault table (BadNumber key) = (value : Data) × (value_at key table ≡ Some value) × ¬ IsInRange table key value
HasFault table BadSet = (name : List ℕ) × (value_at Set table ≡ Some (string name)) × ((set : SetKind) → name ≢ set_name set)
HasFault table EmptyMap = (rows : List (List ℕ)) × HasRows table rows × (width rows ≡ 0)
HasFault table (Ragged r) = (rows : List (List ℕ)) × HasRows table rows × (IsOtherRow rows r ⊎ IsUndivided table rows r)
HasFault table (BadChar r c) = (rows : List (List ℕ)) × HasRows table rows × IsStrangeAt rows r c
HasFault table TooLarge =
    (set : SetKind) × NamesSet table set × (rows : List (List ℕ)) × HasRows table rows × (layers : ℕ) × HasLayers table layers
    × ¬ IsSpace (box_of (stencil_of set).dimension layers rows)

-- the faults of a file: bytes that are no document have one, and those of any other file are those of its document
abbrev pub HasFaultIn : Option Members → CaseFault → Type 0
HasFaultIn document fault = MatchOption document (fault ≡ NotToml) (λ table. HasFault table fault)

-- ---- their order

-- the line of a fault in the table of refusals, and what tells faults of one line apart
abbrev pub number_of : Key → ℕ
number_of Set = 0
number_of Omega = 1
number_of Map = 2
number_of Layers = 3
number_of Density = 4
number_of Digit = 5
number_of Momentum = 6
number_of Force = 7
number_of OmegaMinus = 8
number_of Wall = 9

abbrev pub line_of : CaseFault → ℕ
line_of NotToml = 1
line_of (UnknownKey name) = 2
line_of (MissingKey key) = 3
line_of (WrongKind key) = 4
line_of (BadNumber key) = 5
line_of BadSet = 6
line_of EmptyMap = 7
line_of (Ragged r) = 8
line_of (BadChar r c) = 9
line_of TooLarge = 10

abbrev pub detail_of : CaseFault → List ℕ
detail_of NotToml = []
detail_of (UnknownKey name) = name
detail_of (MissingKey key) = number_of key ∷ []
detail_of (WrongKind key) = number_of key ∷ []
detail_of (BadNumber key) = number_of key ∷ []
detail_of BadSet = []
detail_of EmptyMap = []
detail_of (Ragged r) = r ∷ []
detail_of (BadChar r c) = r ∷ c ∷ []
detail_of TooLarge = []

-- a fault comes before another: its line is earlier, or on one line its name is less byte by byte, its key earlier in the
-- order of the keys, its row less, or in one row its column
abbrev pub Precedes : CaseFault → CaseFault → Type 0
Precedes a b = slice_cmp nat_cmp (line_of a ∷ detail_of a) (line_of b ∷ detail_of b) ≡ Less

-- a fault that there is, and no fault that there is comes before it
pub record IsFirstOf (Has : CaseFault → Type 0) (fault : CaseFault) : Type 0 where
  pub holds : Has fault
  pub first : (other : CaseFault) → Has other → ¬ Precedes other fault

-- the first fault of a file
abbrev pub IsFirstFault : List ℕ → CaseFault → Type 0
IsFirstFault bytes = IsFirstOf (HasFaultIn (table_of bytes))
