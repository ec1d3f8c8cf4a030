use Rattle.std.proofs.Common.{ℕ, ◌+◌, ◌-◌, ◌∙◌, take, drop, sym, ap}
use Rattle.mkpdu_codec.proofs.Header.{valued}
use Rattle.mkpdu_codec.proofs.reading.check_value.Goals as goal

pub returns : goal.returns
returns c =
    let frame = c.args.frame.now in
    valued frame c.in_ok-check.check.now (sym c.is_mka_header.ensures ∙ c.if-not-is_mka_header.false) (sym c.has_body.ensures ∙ c.if-not-has_body.false)
    (c.in_ok-check.ensures.cases.0 ∙ ap (take 16) (c.split_at.ensures.back ∙ ap (λ (n : ℕ). drop (18 + (n - 16)) frame) c.eapol_len.ensures.value))
