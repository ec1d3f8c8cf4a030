-- The definitions at worked packets.
use Rattle.std.specs.Prelude.{codes, replicate}
use Rattle.std.proofs.Common.{◌≡◌, inl, arith, ℕ, true, false, List, [], ◌∷◌, ◌++◌, Some, None, Err, refl}
use Rattle.known_keys.specs.declared.reason.Reason.TheVariants.{NoKey}
use Rattle.packet_verdicts.specs.declared.kind.Malformed.TheVariants.{Refused}
use Rattle.gcm_frames.specs.declared.tag.TagRefusal.TheVariants as tags
use Rattle.gcm_frames.specs.Tags.{implied_fields}
use Rattle.mkpdu_codec.specs.Reading.{parts_at, reading}
use Rattle.std.specs.Fmt.{digits}
use Rattle.audit_facts.specs.Noted.{events}
use Rattle.audit_report.specs.declared.blame.Blame.TheVariants as blames
use Rattle.audit_report.specs.declared.blame.Breach.TheVariants.{Nonce}
use Rattle.audit_report.specs.declared.ending.Ending.TheVariants as endings
use Rattle.audit_report.specs.declared.finding.Finding.TheVariants as findings
use Rattle.audit_text.specs.Reading.{key_line_in}
use Rattle.capture_packets.specs.declared.fault.CaptureFault.TheVariants.{Cut}
use Rattle.key_ring.specs.Rings.{no_ring}
use Rattle.lan_base.specs.Faults.{Rose}
use Rattle.trace_text.specs.declared.fault.TextFault.TheVariants.{Word}
use Rattle.capture_audit.specs.declared.end.AuditEnd.TheVariants as ends
use Rattle.capture_audit.specs.Before.{Unwrapped, entries, frames, mkpdus}
use Rattle.capture_audit.specs.Findings.{finding}
use Rattle.capture_audit.specs.declared.asks.Asks.{Asks}
use Rattle.capture_audit.specs.Ends.{EndsAudit, IsPartReported, end_of}
use Rattle.capture_audit.specs.Reading.{AreFirst, in_order}
use Rattle.capture_audit.specs.Telling.{noted, told_lines}

-- ---- packets

abbrev foreign : Unwrapped
foreign = record {
  packet = record {
    octets = 1 ∷ 2 ∷ [];
    head = record { original = 2; nanos = 5; is_ethernet = false; is_untimed = true };
  };
  gift = None;
}

abbrev of_octets : ℕ → List ℕ → Unwrapped
of_octets original octets = record {
  packet = record {
    octets = octets;
    head = record { original = original; nanos = 7; is_ethernet = true; is_untimed = false };
  };
  gift = None;
}

abbrev addresses : List ℕ
addresses = 1 ∷ 2 ∷ 3 ∷ 4 ∷ 5 ∷ 6 ∷ 7 ∷ 8 ∷ 9 ∷ 10 ∷ 11 ∷ 12 ∷ []

abbrev sci : List ℕ
sci = 2 ∷ 0 ∷ 0 ∷ 0 ∷ 0 ∷ 10 ∷ 0 ∷ 1 ∷ []

-- a protected frame with four octets of secure data
abbrev protected : List ℕ
protected = addresses ++ (0x88 ∷ 0xe5 ∷ 0x2c ∷ 4 ∷ 0 ∷ 0 ∷ 0 ∷ 1 ∷ []) ++ sci ++ replicate 20 0

abbrev user : List ℕ
user = addresses ++ 0x88 ∷ 0xb5 ∷ 1 ∷ []

foreign_one : finding no_ring [] foreign ≡ findings.Foreign
foreign_one = refl

other : finding no_ring [] (of_octets 15 user) ≡ findings.Other
unfolding reading parts_at
other = refl

-- no key is known
no_key : finding no_ring [] (of_octets 48 protected) ≡ findings.Undecided NoKey
unfolding implied_fields
no_key = refl

-- of four octets the tag isn't whole
sec_cut : finding no_ring [] (of_octets 48 (addresses ++ 0x88 ∷ 0xe5 ∷ 0x2c ∷ 4 ∷ [])) ≡ findings.SecCut
unfolding implied_fields
sec_cut = refl

short : finding no_ring [] (of_octets 16 (addresses ++ 0x88 ∷ 0xe5 ∷ 0x2c ∷ 4 ∷ []))
    ≡ findings.Malformed (Refused tags.Short)
unfolding implied_fields
short = refl

-- such packets tell nothing for those behind them
nothing_known : entries no_ring (foreign ∷ of_octets 48 protected ∷ []) ≡ []
unfolding implied_fields
nothing_known = refl

no_frames : frames no_ring (foreign ∷ of_octets 48 protected ∷ []) ≡ []
unfolding implied_fields
no_frames = refl

no_mkpdus : mkpdus no_ring (foreign ∷ of_octets 48 protected ∷ []) ≡ []
unfolding implied_fields
no_mkpdus = refl

-- nor do they tell anything of changes of key, of members, or of who is ready for a key
no_events : events (noted no_ring (foreign ∷ of_octets 48 protected ∷ [])) ≡ []
unfolding implied_fields
no_events = refl

each_noted : noted no_ring (of_octets 15 user ∷ foreign ∷ [])
    ≡ record { finding = findings.Other; nanos = 7; said = None; unknown = None }
    ∷ record { finding = findings.Foreign; nanos = 5; said = None; unknown = None } ∷ []
unfolding reading parts_at
each_noted = refl

-- ---- lines

abbrev strict : Asks
strict = record { shows = true; strict = true; keys = true }

abbrev nothing : Asks
nothing = record { shows = false; strict = false; keys = false }

lines : told_lines strict no_ring (of_octets 15 user ∷ foreign ∷ [])
    ≡ (codes "packet 1 foreign" ++ 10 ∷ []) ++ (codes "packet 2 other" ++ 10 ∷ [])
unfolding reading parts_at implied_fields digits
lines = refl

few_lines : told_lines nothing no_ring (of_octets 15 user ∷ foreign ∷ []) ≡ []
unfolding reading parts_at implied_fields digits
few_lines = refl

-- ---- how an audit ends

-- the newest is the first, and was captured last
oldest_first : in_order (of_octets 15 user ∷ foreign ∷ []) ≡ foreign.packet ∷ (of_octets 15 user).packet ∷ []
oldest_first = refl

-- packets 6 and 24 share a nonce, and the source failed behind them
refuted_before_a_fault : end_of (blames.Refuted (Nonce 6 24)) endings.Fault ≡ Err (ends.Refuted (Nonce 6 24))
refuted_before_a_fault = refl

-- no frame is right, and the last record is cut
not_judged_before_a_cut : end_of blames.NotJudged (endings.Octet 24 Cut) ≡ Err ends.NotJudged
not_judged_before_a_cut = refl

-- without an octet there is no capture, which is refused at its octet 0
no_octet : EndsAudit strict [] (Some []) (Rose 0 0) (Some (1 ∷ [])) (Some (1 ∷ [])) (Err (ends.Refused 0 Cut))
no_octet = inl ((refl, refl, λ cut. omega arith), refl)

-- of none nothing was told yet
no_packet : AreFirst [] []
no_packet = ([], refl)

no_part : IsPartReported strict [] (Some []) (Some (1 ∷ [])) (Some (1 ∷ []))
no_part = inl (record {
  ring = no_ring;
  packets = [];
  said = refl;
  first = no_packet;
  unwrapped = λ k d less. absurd (omega (arith, less));
  more = [];
  rest = [];
  parts = refl;
  written = refl;
})

-- the second line is refused, and nothing was written
second_line : EndsAudit strict (10 ∷ codes "key" ++ 10 ∷ []) None (Rose 0 0) (Some []) (Some []) (Err (ends.KeyLine 2 Word))
unfolding key_line_in
second_line = (refl, refl)
