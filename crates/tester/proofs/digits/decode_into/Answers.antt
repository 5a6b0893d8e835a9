use Rattle.std.proofs.Common.{◌≡◌, length, Some, ap, ◌∙◌, arith}
use Rattle.std.specs.Result.{result_ok}
use Rattle.tester.specs.Hex.{Writes}
use Rattle.tester.proofs.Decoding.{no_bad_digit, filled}
use Rattle.tester.proofs.digits.decode_into.Goals as goal

pub returns : goal.returns
returns c =
    let text = c.args.text.now in
    let out = c.args.out.now in
    let w : Writes (length out) text = record {
      size = omega (arith, c.if-text-ne0.false, c.if-text-out.false);
      digits = no_bad_digit _ _ c.first_bad_digit.result c.first_bad_digit.ensures c.if-is_some.ensures;
    } in
    let p = filled text out c.decode_to_slice.new.out c.decode_to_slice.result w c.decode_to_slice.ensures.value in
    let e : c.ok.result ≡ Some tt = c.ok.ensures.value ∙ ap result_ok p.0 in
    record { answer = rw e w; bytes = rw e p.1 }
