-- What is true of each word at hand.
use Rattle.std.specs.Prelude.{◌<◌, length}
use Rattle.link_theory.specs.Receiver.{Cutter}

-- the word at hand lacks a byte
abbrev pub WithinWord : Cutter → Type 0
WithinWord c = length c.word < 204
