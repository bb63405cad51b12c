use Rattle.std.proofs.Common.{◌≡◌, ◌∙◌, ap, length, arith}
use Rattle.ods_records.specs.Attributes.{attributes}
use Rattle.ods_upkeep.specs.Written.{records_like}
use Rattle.ods_upkeep.proofs.written.as_records.Goals as goal

pub returns-clause-ok : goal.returns-clause-ok
returns-clause-ok c =
    let same : c.as_slice-length.result.now ≡ c.in-Ok.records.bytes.items = c.as_slice-length.ensures.value in
    record {
      longest = c.in-Ok.records.longest;
      lines = c.in-Ok.ensures.ok;
      small = omega (arith, ap length same, c.if-length-ge-MAX_BYTES.false);
      are = c.records_like.ensures ∙ ap (λ own. records_like c.args.like.now own) (c.text_attributes-own.ensures.value ∙ ap (λ bytes. attributes 2 2 c.in-Ok.records.longest (length bytes)) same);
    }
