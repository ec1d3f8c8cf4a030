use Rattle.std.specs.Prelude.{is_some}
use Rattle.std.proofs.Common.{◌≡◌, ◌∙◌, refl, sym, ap}
use Rattle.gcm_frames.specs.Sealed.{opened, user_data}
use Rattle.packet_verdicts.specs.Right.{is_opened, is_right}
use Rattle.packet_verdicts.proofs.Sealing.{some_of}
use Rattle.packet_verdicts.proofs.laws.law_right_is_sealed.Goals as goal

pub returns : goal.returns
returns c keys tag frame key number named is sci =
    let same : is_right keys tag frame number ≡ is_some (opened key tag frame) = ap (is_opened tag frame) named in (
      λ h.
          let u = some_of (opened key tag frame) (sym same ∙ h) in
          let s = (c.law_opened_is_sealed.ensures key frame u.0 tag is sci).0 u.1 in
          (s.0, s.1),
      λ s. same ∙ ap is_some ((c.law_opened_is_sealed.ensures key frame (user_data tag frame s.0) tag is sci).1 (s.0, s.1, refl)),
    )
