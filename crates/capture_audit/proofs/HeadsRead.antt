-- How reading ends where the head of a capture is not read.
use Rattle.std.proofs.Common.{◌≡◌, ℕ, ◌-◌, ◌≤◌, true, List, ◌++◌, length, take, Option, None, Result, Ok, Err, refl, sym, ap, ◌∙◌, append_assoc, arith, inl, inr, ◌<◌}
use Rattle.std.specs.Prelude.{nat_lt}
use Rattle.std.proofs.lemmas.Bool.{cases_lt}
use Rattle.std.proofs.lemmas.Bool.Decides.{nat_tests}
use Rattle.std.proofs.lemmas.List.{append_cancel_left, take_all}
use Rattle.lan_base.specs.Ranges.{most_input}
use Rattle.octet_supply.proofs.Public.{take-behind}
use Rattle.text_lines.specs.declared.reading.End.TheVariants as ends
use Rattle.capture_packets.specs.declared.fault.CaptureFault.{CaptureFault}
use Rattle.capture_packets.specs.declared.fault.CaptureFault.TheVariants.{Cut}
use Rattle.capture_packets.specs.Captures.{Step, head_in, opened, opened_with}
use Rattle.capture_packets.specs.Reading.{IsWithinHead, Opens}
use Rattle.capture_packets.proofs.Public.{unopened}
use Rattle.audit_text.specs.Parting.{capture_behind}
use Rattle.audit_text.proofs.Public.{cut-few, cut-to}
use Rattle.key_ring.specs.Reading.{ReadsRing, file_in}
use Rattle.key_ring.specs.Rings.{Ring}
use Rattle.capture_audit.specs.Reading.{IsHeadFailed, IsHeadPast, IsHeadRefused}

-- ---- in the key text

-- there is no capture
pub none-opens : (text : List ℕ) (left : Option (List ℕ)) (ring : Ring)
    → ReadsRing text left (Ok (ring, None)) → IsHeadRefused text 0 Cut
none-opens text left ring (said, none, few, end) = (refl, ap opened none, (λ cut. few))

pub ring-past : (text : List ℕ) (left : Option (List ℕ)) → ReadsRing text left (Err ends.Limit) → IsHeadPast text
ring-past text left (longer, un) = (longer, ap opened un.none)

pub ring-failed : (text : List ℕ) (left : Option (List ℕ)) → ReadsRing text left (Err ends.ReadFault)
    → IsHeadFailed text left
ring-failed text left (taken, is, un) = record {
  taken = taken;
  rest = is.rest;
  whole = is.whole;
  told = is.told;
  within = is.within;
  why = Cut;
  unread = ap opened un.none;
}

-- ---- in the head

pub head-refused : (text given : List ℕ) (left : Option (List ℕ)) (at : ℕ) (why : CaptureFault)
    → Opens most_input text given (file_in text) left (Err (ends.Refused (at, why))) → IsHeadRefused text at why
head-refused text given left at why o = o

pub head-past : (text given : List ℕ) (left : Option (List ℕ))
    → Opens most_input text given (file_in text) left (Err ends.Limit) → IsHeadPast text
head-past text given left o = o

-- what was taken stands within what is visible of the text
pub taken-front : (limit : ℕ) (text given behind more rest : List ℕ) → take limit text ≡ given ++ behind
    → text ≡ (given ++ more) ++ rest → length (given ++ more) ≤ limit
    → behind ≡ more ++ take (limit - length (given ++ more)) rest
taken-front limit text given behind more rest visible whole few =
    append_cancel_left given behind (more ++ take (limit - length (given ++ more)) rest)
    (sym visible ∙ ap (take limit) whole ∙ take-behind limit (given ++ more) rest few
    ∙ append_assoc given more (take (limit - length (given ++ more)) rest))

unread-by : (file more c octets : List ℕ) → file ≡ more ++ c → IsWithinHead file more → octets ≡ more
    → (r : Result Step CaptureFault) → opened more ≡ r → (why : CaptureFault) × (opened octets ≡ Err why)
unread-by file more c octets parts within same (Err why) is = (why, ap opened same ∙ is)
unread-by file more c octets parts within same (Ok s) is = absurd (unopened file more c s parts within is)

-- of fewer octets than four the head is cut
few-cut : (octets : List ℕ) → length octets < 4 → opened octets ≡ Err Cut
few-cut octets few =
    let all : take 24 octets ≡ octets = take_all 24 octets (omega (arith, few)) in
    let test : nat_lt (length octets) 4 ≡ true = grind (arith, nat_tests) in
    ap (λ (head : List ℕ). opened_with octets (head_in head)) all ∙ rw test refl

pub head-failed : (text given : List ℕ) (left : Option (List ℕ)) → take most_input text ≡ given ++ file_in text
    → Opens most_input text given (file_in text) left (Err ends.ReadFault) → IsHeadFailed text left
head-failed text given left visible (more, is, within) =
    let file = file_in text in
    let c = take (most_input - length (given ++ more)) is.rest in
    let parts = taken-front most_input text given file more is.rest visible is.whole is.within in
    let all : capture_behind (given ++ (more ++ c)) ≡ more ++ c =
    ap capture_behind (ap (λ (l : List ℕ). given ++ l) (sym parts) ∙ sym visible) ∙ parts in
    let unread : (why : CaptureFault) × (opened (capture_behind (given ++ more)) ≡ Err why) =
    elim (cases_lt (length more) 4) [
      | inl few ↦
          let most = cut-few given more c all in (Cut, few-cut (capture_behind (given ++ more)) (omega (arith, most, few)))
      | inr many ↦
          unread-by file more c (capture_behind (given ++ more)) parts within (cut-to given more c many all)
          (opened more) refl
    ] in
    record {
      taken = given ++ more;
      rest = is.rest;
      whole = is.whole;
      told = is.told;
      within = is.within;
      why = unread.0;
      unread = unread.1;
    }
