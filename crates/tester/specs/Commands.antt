-- The lines that the tester writes: a verb, a space and hex digits.
use Rattle.std.specs.Prelude.{◌≡◌, ◌≢◌, ℕ, ◌+◌, ◌%◌, ◌<◌, Bool, true, false, List, [], length, codes, ◌==◌, slice_index}
use Rattle.std.specs.List.{position_or_len, before_first, after_first}
use Rattle.tester.specs.Hex.{is_digit}
use Rattle.tester.specs.declared.command.Verb.{Verb}
use Rattle.tester.specs.declared.command.Verb.TheVariants.{Code, Check, Correct}
use Rattle.tester.specs.declared.command.Flaw.{Flaw}
use Rattle.tester.specs.declared.command.Flaw.TheVariants.{Empty, UnknownVerb, NotADigit, OddDigits}

-- how a verb is written
abbrev pub name_of : Verb → List ℕ
name_of Code = codes "code"
name_of Check = codes "check"
name_of Correct = codes "correct"

abbrev pub is_space : ℕ → Bool
is_space c = c == 32

-- where the first space stands, or the length
abbrev pub space_at : List ℕ → ℕ
space_at line = position_or_len is_space line

-- the line up to its first space, and what is behind that
abbrev pub name_in : List ℕ → List ℕ
name_in line = before_first is_space line

abbrev pub digits_in : List ℕ → List ℕ
digits_in line = after_first is_space line

-- each character of the text below n is a digit
abbrev pub Digits : ℕ → List ℕ → Type 0
Digits n text = (k : ℕ) → k < n → is_digit (slice_index text k) ≡ true

-- the line is the command with the verb v and the digits ds
pub record Reads (line : List ℕ) (v : Verb) (ds : List ℕ) : Type 0 where
  pub name : name_in line ≡ name_of v
  pub rest : ds ≡ digits_in line
  pub digits : Digits (length ds) ds
  pub even : length ds % 2 ≡ 0

-- the line is no command, for the reason given
abbrev pub Flawed : List ℕ → Flaw → Type 0
Flawed line Empty = line ≡ []
Flawed line UnknownVerb = (v : Verb) → name_in line ≢ name_of v
Flawed line (NotADigit column) =
    (v : Verb) × (k : ℕ) × (name_in line ≡ name_of v) × (column ≡ space_at line + 2 + k) × (k < length (digits_in line))
    × (is_digit (slice_index (digits_in line) k) ≡ false) × Digits k (digits_in line)
Flawed line OddDigits = (v : Verb) × (name_in line ≡ name_of v) × Digits (length (digits_in line)) (digits_in line) × (length (digits_in line) % 2 ≡ 1)
