-- Classes of bytes that a program doesn't distinguish.
use Rattle.std.specs.Prelude.{◌≡◌, ℕ, ◌+◌, ◌-◌, ◌<◌, ◌≤◌, ◌⊎◌, Bool, true, false, ◌&&◌, ◌==◌, nat_le, nat_lt, List, [], All, get_or, length}
use Rattle.unicode.specs.Perl.{is_word_char}
use Rattle.rx_utf8.specs.declared.byte_ranges.ByteRange.{ByteRange}
use Rattle.rx_utf8.specs.Automata.{Reader}
use Rattle.rx_program.specs.declared.states.State.{State}
use Rattle.rx_program.specs.declared.states.State.TheVariants as state
use Rattle.rx_program.specs.Programs.{ByteProgram}
use Rattle.rx_steps.specs.declared.asked.AskedLooks.{AskedLooks}
use Rattle.rx_steps.specs.Alike.{ReadAlike}

-- the byte is a continuation byte of UTF-8
abbrev pub continues : ℕ → Bool
continues b = nat_le 128 b && nat_lt b 192

-- a program with these assertions doesn't distinguish the bytes: its automata step alike over both,
-- both are continuation bytes or neither is, both are ASCII or neither is, and its assertions see
-- the same in both
pub record AreAlikeBytes (p : ByteProgram) (asked : AskedLooks) (b c : ℕ) : Type 0 where
  pub reads : ReadAlike p b c
  pub continue : continues b ≡ continues c
  pub ascii : nat_lt b 128 ≡ nat_lt c 128
  pub ends_line : asked.lines ≡ true → (b == p.line_terminator) ≡ (c == p.line_terminator)
  pub is_word : asked.words ≡ true → b < 128 → c < 128 → is_word_char b ≡ is_word_char c

-- the class of each byte, and a representative byte of each class
pub record ByteClassesView : Type 0 where
  pub of : List ℕ
  pub bytes : List ℕ

abbrev pub class_of : ByteClassesView → ℕ → ℕ
class_of classes b = get_or classes.of b 0

abbrev pub byte_of : ByteClassesView → ℕ → ℕ
byte_of classes b = get_or classes.bytes (class_of classes b) 0

-- each byte has a class, whose representative the program doesn't distinguish from it
pub record IsOfClass (p : ByteProgram) (asked : AskedLooks) (classes : ByteClassesView) (b : ℕ)
    : Type 0 where
  pub has_class : class_of classes b < length classes.bytes
  pub alike : AreAlikeBytes p asked (byte_of classes b) b

abbrev pub AreClassesOf : ByteProgram → AskedLooks → ByteClassesView → Type 0
AreClassesOf p asked classes = (b : ℕ) → b < 256 → IsOfClass p asked classes b

-- ---- how they are computed

-- there is a cut before this byte
abbrev pub HasCut : List Bool → ℕ → Type 0
HasCut cuts b = get_or cuts b false ≡ true

-- there is no cut between these bytes
abbrev pub AreTogether : List Bool → ℕ → ℕ → Type 0
AreTogether cuts c b = (c ≤ b) × ((k : ℕ) → c < k → k ≤ b → HasCut cuts k → ⊥)

-- all cuts of the first list are in the second
abbrev pub HasMoreCuts : List Bool → List Bool → Type 0
HasMoreCuts before after = (k : ℕ) → HasCut before k → HasCut after k

-- there is a cut before a range and after it
abbrev pub IsCut : List Bool → ByteRange → Type 0
IsCut cuts range = HasCut cuts range.first × HasCut cuts (range.last + 1)

abbrev pub RowIsCut : List Bool → List ByteRange → Type 0
RowIsCut cuts row = All (IsCut cuts) row

abbrev pub AutomatonIsCut : List Bool → Reader → Type 0
AutomatonIsCut cuts reader = (s : ℕ) → RowIsCut cuts (get_or reader.rows s [])

-- there are cuts around each range of a state's automaton
abbrev pub StateIsCut : List Bool → State → Type 0
StateIsCut cuts (state.Ranges automaton next) = AutomatonIsCut cuts automaton.value
StateIsCut cuts _ = Unit {0}

-- below a byte there is a cut at each change between word characters and others
abbrev pub WordsAreCut : List Bool → ℕ → Type 0
WordsAreCut cuts n =
    (k : ℕ) → 0 < k → k < n → (is_word_char (k - 1) ≡ is_word_char k) ⊎ HasCut cuts k

-- there are cuts at continuation bytes and non-ASCII bytes, and at each change that these
-- assertions see
pub record LooksAreCut (asked : AskedLooks) (terminator : ℕ) (cuts : List Bool) : Type 0 where
  pub low : HasCut cuts 128
  pub high : HasCut cuts 192
  pub lines : asked.lines ≡ true → HasCut cuts terminator × HasCut cuts (terminator + 1)
  pub words : asked.words ≡ true → WordsAreCut cuts 128

-- no cut is between a byte below a number and the representative of its class
abbrev pub AreClasses : List Bool → ByteClassesView → ℕ → Type 0
AreClasses cuts classes n = (b : ℕ) → b < n
    → (class_of classes b < length classes.bytes) × AreTogether cuts (byte_of classes b) b
