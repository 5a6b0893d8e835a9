-- How many bits a symbol may have, and what that is called.
use Rattle.std.specs.Prelude.{ℕ, ◌≤◌, cond, if◌then◌else◌, ◌&&◌, List, codes, Ok, Err, Result, ◌==◌, nat_le}
use Rattle.std.specs.Result.{OkIff}
use Rattle.std.specs.Str.Parse.{IsNumeral, digits_value, without_leading_plus}
use Rattle.symbols.specs.declared.mapping.Mapping.{Mapping}
use Rattle.symbols.specs.declared.refusal.MappingRefusal.{MappingRefusal}
use Rattle.symbols.specs.declared.refusal.MappingRefusal.TheVariants.{BitsPerSymbol}

-- 4, 5 or 6 bits, and any other number is refused
abbrev pub bits_for : ℕ → Result ℕ MappingRefusal
bits_for n = cond (nat_le 4 n && nat_le n 6) (Ok n) (Err BitsPerSymbol)

-- a mapping is known by its bits
abbrev pub bits_in : Result Mapping MappingRefusal → Result ℕ MappingRefusal
bits_in (Ok m) = Ok m.bits
bits_in (Err e) = Err e

-- a text is read as 4, 5 or 6 bits where it is that number in decimal digits, which a plus sign may precede, and else it is refused
abbrev pub ReadsBits : List ℕ → Result ℕ MappingRefusal → Type 0
ReadsBits text r =
    let digits : List ℕ = without_leading_plus text in
    let n : ℕ = digits_value 10 digits in
    OkIff r (IsNumeral 10 digits × (4 ≤ n) × (n ≤ 6)) n

-- the name of a mapping by its bits
abbrev pub name_for : ℕ → List ℕ
name_for bits = if bits == 4 then codes "16-QAM" else if bits == 5 then codes "32-QAM" else codes "64-QAM"
