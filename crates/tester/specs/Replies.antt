-- What is answered to each command.
use Rattle.std.specs.Prelude.{◌≡◌, ℕ, List, Result, Ok, Err}
use Rattle.coding_theory.specs.Code.{CodeWord}
use Rattle.coding_theory.specs.Words.{differ}
use Rattle.coding_theory.specs.Galois.{bytes}
use Rattle.reed_solomon.specs.Correction.{Near}
use Rattle.reed_solomon.specs.Encoding.{Encoded}
use Rattle.reed_solomon.specs.declared.refusal.CodeRefusal.{CodeRefusal}
use Rattle.reed_solomon.specs.declared.refusal.CodeRefusal.TheVariants.{Length, Fault}
use Rattle.tester.specs.Hex.{Writes, bytes_of}
use Rattle.tester.specs.declared.command.Verb.{Verb}
use Rattle.tester.specs.declared.command.Verb.TheVariants.{Code, Check, Correct}
use Rattle.tester.specs.declared.reply.Kind.{Kind}
use Rattle.tester.specs.declared.reply.Kind.TheVariants.{Coded, Refused, Lost}
use Rattle.tester.specs.declared.reply.Refusal.{Refusal}
use Rattle.tester.specs.declared.reply.Refusal.TheVariants.{PacketLength, NoCodeWord, WordLength}
use Rattle.tester.specs.declared.reply.Reply.{Reply}
use Rattle.tester.specs.declared.reply.Reply.TheVariants.{Word, Right, Wrong, Corrected}

-- the number of a refusal
abbrev pub number_of : Refusal → ℕ
number_of PacketLength = 3
number_of NoCodeWord = 11
number_of WordLength = 14

-- the corrector's refusal as the command's
abbrev pub lifted : CodeRefusal → Refusal
lifted Length = WordLength
lifted (Fault f) = NoCodeWord

-- the word was refused for its length, or since there is no code word within eight bytes
abbrev pub NotCorrected : List ℕ → Refusal → Type 0
NotCorrected ds PacketLength = ⊥
NotCorrected ds WordLength = Writes 204 ds → ⊥
NotCorrected ds NoCodeWord = Writes 204 ds × ((c : List ℕ) → Near bytes (bytes_of ds) c → ⊥)

-- the answer to a verb and digits: a packet's word, what a word of 204 bytes is, and what it is corrected to; or the refusal of a packet
-- of another length, of such a word, and of a word that no code word is near
abbrev pub Answers : Verb → List ℕ → Result Reply Refusal → Type 0
Answers Code ds (Ok (Word w)) = Writes 188 ds × Encoded bytes (bytes_of ds) w
Answers Code ds (Ok Right) = ⊥
Answers Code ds (Ok Wrong) = ⊥
Answers Code ds (Ok (Corrected n w)) = ⊥
Answers Code ds (Err r) = (r ≡ PacketLength) × (Writes 188 ds → ⊥)
Answers Check ds (Ok (Word w)) = ⊥
Answers Check ds (Ok Right) = Writes 204 ds × CodeWord bytes 204 0 16 (bytes_of ds)
Answers Check ds (Ok Wrong) = Writes 204 ds × (CodeWord bytes 204 0 16 (bytes_of ds) → ⊥)
Answers Check ds (Ok (Corrected n w)) = ⊥
Answers Check ds (Err r) = (r ≡ WordLength) × (Writes 204 ds → ⊥)
Answers Correct ds (Ok (Word w)) = ⊥
Answers Correct ds (Ok Right) = ⊥
Answers Correct ds (Ok Wrong) = ⊥
Answers Correct ds (Ok (Corrected n w)) = Writes 204 ds × Near bytes (bytes_of ds) w × (differ w (bytes_of ds) ≡ n)
Answers Correct ds (Err r) = NotCorrected ds r

-- what the account counts an answer as
abbrev pub kind_of : Result Reply Refusal → Kind
kind_of (Ok (Word w)) = Coded
kind_of (Ok Right) = Rattle.tester.specs.declared.reply.Kind.TheVariants.Right
kind_of (Ok Wrong) = Rattle.tester.specs.declared.reply.Kind.TheVariants.Wrong
kind_of (Ok (Corrected n w)) = Rattle.tester.specs.declared.reply.Kind.TheVariants.Corrected n
kind_of (Err PacketLength) = Refused
kind_of (Err NoCodeWord) = Lost
kind_of (Err WordLength) = Refused
