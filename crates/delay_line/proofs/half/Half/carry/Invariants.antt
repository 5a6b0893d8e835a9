use Rattle.std.proofs.Common.{◌≡◌, ◌≤◌, ◌++◌, length, take, drop}
use Rattle.delay_line.specs.Line.{carried, after_all}
use Rattle.delay_line.specs.Halves.{line_of, timing_of}
use Rattle.delay_line.proofs.half.Half.carry.Given as goal

abbrev pub invariant-loop-x : goal.invariant-loop-x
invariant-loop-x g l =
    let w = (timing_of l.initial.self).delay in
    let h = line_of l.self in
    let start = line_of l.initial.self in
    let i = l.x-index in
    let left = drop i l.initial.bytes in
    record {
      timing : timing_of l.self ≡ timing_of l.initial.self;
      answers : take i l.bytes ++ carried w h left ≡ carried w start l.initial.bytes;
      goes : after_all w h left ≡ after_all w start l.initial.bytes;
      rest : drop i l.bytes ≡ left;
      as_long : length l.bytes ≡ length l.initial.bytes;
      within : i ≤ length l.initial.bytes;
    }
