-- The account of a session.
use Rattle.std.specs.Prelude.{ℕ, ◌+◌, ◌-◌, ◌^◌, min}
use Rattle.std.specs.declared.num.Saturating.{Saturating}
use Rattle.tester.specs.declared.account.Account.{Account}
use Rattle.tester.specs.declared.reply.Kind.{Kind}
use Rattle.tester.specs.declared.reply.Kind.TheVariants.{Coded, Right, Wrong, Corrected, Refused, Lost, Unreadable}

-- a counter of 64 bits at 0
abbrev pub none : Saturating ℕ
none = record { 0 = 0 }

-- k more, up to the largest number of 64 bits
abbrev pub more : ℕ → Saturating ℕ → Saturating ℕ
more k n = record { 0 = min (n.0 + k) (2 ^ 64 - 1) }

abbrev pub empty : Account
empty = record { coded = none; right = none; wrong = none; refused = none; unreadable = none; corrected_words = none; corrected_bytes = none; refused_words = none }

-- all lines together
abbrev pub lines_of : Account → ℕ
lines_of a = a.coded.0 + a.right.0 + a.wrong.0 + a.refused.0 + a.unreadable.0 + a.corrected_words.0

-- the account with one line more of its kind
abbrev pub noted : Kind → Account → Account
noted Coded a = record a { coded = more 1 a.coded }
noted Right a = record a { right = more 1 a.right }
noted Wrong a = record a { wrong = more 1 a.wrong }
noted (Corrected n) a = record a { corrected_words = more 1 a.corrected_words; corrected_bytes = more n a.corrected_bytes }
noted Refused a = record a { refused = more 1 a.refused }
noted Lost a = record a { refused = more 1 a.refused; refused_words = more 1 a.refused_words }
noted Unreadable a = record a { unreadable = more 1 a.unreadable }
