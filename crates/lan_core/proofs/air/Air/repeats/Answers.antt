use Rattle.std.proofs.Common.{◌≡◌, ◌∙◌, ◌+◌, ◌++◌, List, ℕ, true, length, take, drop, Some, Ok, Err, sym, ap}
use Rattle.mkpdu_codec.specs.declared.read_error.ReadError.{ReadError}
use Rattle.mkpdu_codec.specs.Reading.{check_value, reading}
use Rattle.lan_core.specs.inside.Repeats.{begins, repeats_octets}
use Rattle.lan_core.proofs.SpellingRepeats.{any_same, goes_on, read_stands, repeats_begins, repeats_none}
use Rattle.lan_core.proofs.air.Air.repeats.Goals as goal

pub returns-in-Ok : goal.returns-in-Ok
returns-in-Ok c =
    let octets = c.args.octets.now in
    let s = c.in-Ok.spelled in
    let told = take (s.covered + 16) octets in
    let is : reading octets ≡ Ok s = c.law_spelled_is_read.ensures octets s.check s.announcement s.covered c.in-Ok.ensures.found in
    let again : (rest : List ℕ) → reading (told ++ rest) ≡ Ok s = λ rest.
    c.law_spelled_is_read.ensures (told ++ rest) s.check s.announcement s.covered
    (c.law_octets_behind_are_ignored.ensures octets rest s.check s.announcement s.covered c.in-Ok.ensures.found) in
    let only : (f : List ℕ) → begins told f ≡ true → check_value f ≡ Some s.check = λ f e.
    (read_stands f s (ap reading (goes_on told f e) ∙ again (drop (length told) f))).valued in
    c.has.ensures only ∙ any_same (begins told) (repeats_octets octets) (λ f. repeats_begins octets f s is again) c.args.self.now

pub returns-in-Err-Refused : goal.returns-in-Err-Refused
returns-in-Err-Refused c =
    let octets = c.args.octets.now in
    let why = c.in-Err-Refused.field-0-0 in
    let refused = (c.read.ensures.refused why).0 (c.in-Err-Refused.is ∙ ap (λ (error : ReadError). Err error) c.in-Err-Refused.field-0-is) in
    sym (repeats_none octets why c.args.self.now ((c.law_reading_refuses.ensures octets why).0 refused))
