use Rattle.std.proofs.Common.{ℕ, ◌-◌, ◌∙◌, take, drop, sym, ap}
use Rattle.mkpdu_codec.specs.Refusals.{body_length}
use Rattle.mkpdu_codec.proofs.Header.{parts_are}
use Rattle.mkpdu_codec.proofs.reading.read_parts.Goals as goal

pub returns-clause-value : goal.returns-clause-value
returns-clause-value c =
    let source = rw c.unwrap.ensures at c.split_first_chunk.ensures.cases in
    let check = rw c.unwrap-2.ensures at c.split_first_chunk-2.ensures.cases in
    parts_are c.args.frame.now c.unwrap.result.0.now c.split_at-2.result.0.now c.unwrap-2.result.0.now (sym c.is_mka_header.ensures ∙ c.if-not-is_mka_header.false) (sym c.has_body.ensures ∙ c.if-not-has_body.false)
    (source.0 ∙ ap (take 6) c.split_at-3.ensures.back)
    (c.split_at-2.ensures.front ∙ ap (λ (n : ℕ). take (n - 16) c.split_at.result.1.now) c.eapol_len.ensures.value ∙ ap (take (body_length c.args.frame.now - 16)) c.split_at.ensures.back)
    (check.0 ∙ ap (take 16) (c.split_at-2.ensures.back ∙ ap (λ (n : ℕ). drop (n - 16) c.split_at.result.1.now) c.eapol_len.ensures.value ∙ ap (drop (body_length c.args.frame.now - 16)) c.split_at.ensures.back))
