use Rattle.std.proofs.Common.{◌≡◌, ◌≢◌, ◌++◌, ◌==◌, ◌∙◌, ap, subst, not, length, arith}
use Rattle.std.specs.List.{Contains}
use Rattle.ods_header.specs.Header.{blocks_of, next_number_of}
use Rattle.ods_remains.specs.Deleted.{counted, former, used_again}
use Rattle.ods_remains.proofs.Summing.{names_first}
use Rattle.ods_remains.proofs.left.left_of.Goals as goal

pub returns : goal.returns
returns c = λ deleted.
    let I = c.args.disk.now.image.now in
    let L = c.args.disk.now.layout.now in
    let n = c.args.number in
    let header = c.in-Some.header in
    let was : header ≡ former I L n = c.in-Some.ensures.1 in
    let there : c.push_header.new.named.items ≡ blocks_of (former I L n) = c.in_ok-push_header.ensures ∙ ap (λ xs. xs ++ blocks_of header) c.new-blocks.ensures.items ∙ ap blocks_of was in
    let long : c.len.result ≡ length c.push_header.new.named.items = omega (arith, c.len.ensures, c.push_header.new.named.ok.0) in
    let many : c.counted.result ≡ counted (length (blocks_of (former I L n))) = c.counted.ensures ∙ ap counted (long ∙ ap length there) in
    record {
      onward = c.next_or_zero.ensures;
      cut = ap (λ k. not (k == 0)) (c.next_number.ensures ∙ ap next_number_of was);
      blocks = many;
      used = c.counted-2.ensures ∙ ap counted (c.used_again.ensures ∙ ap (used_again I L) (c.deref.ensures.value ∙ there));
      first = names_first I L n c.counted.result c.first_of.result many (subst (λ xs. length xs ≢ 0 → Contains xs c.first_of.result) (c.deref-2.ensures.value ∙ there) c.first_of.ensures);
    }
