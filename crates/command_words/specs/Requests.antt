-- What the words of a command line ask for.
use Rattle.std.specs.Prelude.{ℕ, ◌≤◌, ◌≡◌, ◌⊎◌, List, [], ◌∷◌, ◌++◌, Bool, false, drop, Option, Some, None, codes, refl, if◌then◌else◌, nat_eq}
use Rattle.std.specs.List.{starts_with}
use Rattle.std.specs.Str.{bytes_eq}
use Rattle.command_words.specs.Numbers.{number, between}
use Rattle.command_words.specs.declared.request.Request.{Request}
use Rattle.command_words.specs.declared.request.Request.TheVariants.{Read, Generate, Trial}
use Rattle.command_words.specs.declared.request.Task.{Task}
use Rattle.command_words.specs.declared.request.Task.TheVariants.{Check, Assess, Session}

-- ---- the option, and the positional words

-- all words but for the option, in their order, and the option's value where the option is there
pub record Line : Type 0 where
  pub positional : List (List ℕ)
  pub value : Option (List ℕ)

abbrev pub is_option : List ℕ → Bool
is_option word = bytes_eq word (codes "--max-errors")

-- the value of the option, where it stands in one word with the name
abbrev pub value_within : List ℕ → Option (List ℕ)
value_within word = if starts_with nat_eq word (codes "--max-errors=") then Some (drop 13 word) else None

abbrev pub given_once : List ℕ → Line → Option (List ℕ) → Option Line
given_once v l None = Some (record l { value = Some v })
given_once v l (Some other) = None

-- the option stands once at most
abbrev pub with_value : List ℕ → Option Line → Option Line
with_value v None = None
with_value v (Some l) = given_once v l l.value

abbrev pub with_positional : List ℕ → Option Line → Option Line
with_positional word None = None
with_positional word (Some l) = Some (record l { positional = word ∷ l.positional })

abbrev pub with_by : List ℕ → Option (List ℕ) → Option Line → Option Line
with_by word None behind = with_positional word behind
with_by word (Some v) behind = with_value v behind

-- one word and those behind it: the option with its value, or a positional word
abbrev pub with_word : List ℕ → Option Line → Option Line
with_word word behind = with_by word (value_within word) behind

abbrev pub no_words : Line
no_words = record { positional = []; value = None }

-- `--max-errors VALUE` or `--max-errors=VALUE` is the option; every other word is positional
abbrev pub line : List (List ℕ) → Option Line
line [] = Some no_words
line (word ∷ []) = if is_option word then None else with_word word (Some no_words)
line (word ∷ next ∷ more) = if is_option word then with_value next (line more) else with_word word (line (next ∷ more))

-- the word is no part of the option
abbrev pub IsPositional : List ℕ → Type 0
IsPositional word = (is_option word ≡ false) × (value_within word ≡ None)

-- these words are the option with this value
abbrev pub IsOption : List (List ℕ) → List ℕ → Type 0
IsOption words v = (words ≡ codes "--max-errors" ∷ v ∷ []) ⊎ (words ≡ (codes "--max-errors=" ++ v) ∷ [])

-- ---- what they ask for

abbrev pub task : List ℕ → Option Task
task word =
    if bytes_eq word (codes "check") then Some Check
    else (if bytes_eq word (codes "assess") then Some Assess
    else (if bytes_eq word (codes "session") then Some Session else None))

-- the value of the option: a number up to 4,294,967,295, and 100 without the option
abbrev pub most : Option (List ℕ) → Option ℕ
most None = Some 100
most (Some value) = between 0 4294967295 value

abbrev pub read_by : Option Task → Option ℕ → Option Request
read_by None most = None
read_by (Some t) None = None
read_by (Some t) (Some most) = Some (Read t most)

abbrev pub generated_by : List ℕ → Option ℕ → Option ℕ → Option Request
generated_by word None items = None
generated_by word (Some start) None = None
generated_by word (Some start) (Some items) =
    if bytes_eq word (codes "generate") then Some (Generate start items) else (if bytes_eq word (codes "trial") then Some (Trial start items) else None)

-- `generate NUMBER COUNT` and `trial NUMBER COUNT`
abbrev pub generated : List ℕ → List ℕ → List ℕ → Option Request
generated word start items = generated_by word (number start) (between 1 100000 items)

-- `check`, `assess` or `session`, with the option or without; or `generate` or `trial` with a number and a count, without the option
abbrev pub asked_by : Option (List ℕ) → List (List ℕ) → Option Request
asked_by value (command ∷ []) = read_by (task command) (most value)
asked_by None (command ∷ start ∷ items ∷ []) = generated command start items
asked_by value words = None

abbrev pub asked : Option Line → Option Request
asked None = None
asked (Some l) = asked_by l.value l.positional

-- what all the words ask for
abbrev pub request : List (List ℕ) → Option Request
request words = asked (line words)

-- a stream is generated of one item at least
abbrev pub HasCount : Request → Type 0
HasCount (Read task most) = Unit {0}
HasCount (Generate start items) = 1 ≤ items
HasCount (Trial start items) = 1 ≤ items

-- ---- examples

option_behind : request (codes "session" ∷ codes "--max-errors" ∷ codes "7" ∷ []) ≡ Some (Read Session 7)
option_behind = refl

option_before : request (codes "--max-errors=7" ∷ codes "check" ∷ []) ≡ Some (Read Check 7)
option_before = refl

no_option : request (codes "trial" ∷ codes "3" ∷ codes "20" ∷ []) ≡ Some (Trial 3 20)
no_option = refl

option_twice : request (codes "--max-errors=7" ∷ codes "check" ∷ codes "--max-errors=7" ∷ []) ≡ None
option_twice = refl
