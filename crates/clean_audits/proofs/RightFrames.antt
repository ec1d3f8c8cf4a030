-- A protected frame of a run is right under the SAK of its claim.
use Rattle.std.proofs.Common.{◌≡◌, sym, ap, ◌∙◌, subst, ℕ, List, map, Some, is_some}
use Rattle.aes_block.specs.Secrets.{secret_octets}
use Rattle.gcm_frames.specs.declared.tag.Tag.{Tag}
use Rattle.gcm_frames.specs.Sealed.{opened}
use Rattle.known_keys.specs.History.{Entry, keys}
use Rattle.known_keys.specs.Known.{known}
use Rattle.known_keys.specs.Numbered.{number_in}
use Rattle.packet_verdicts.specs.Right.{is_opened, is_right}
use Rattle.capture_audit.specs.Before.{right_key}
use Rattle.lan_core.specs.Ledgers.{Install, installs}
use Rattle.lan_core.specs.Run.{Run}
use Rattle.group_safety.proofs.Public.{In, some-same}
use Rattle.clean_audits.specs.Clean.{Opens}
use Rattle.clean_audits.proofs.Finding.{find-only}
use Rattle.clean_audits.proofs.Told.{AreOurs, is-known, known-key, numbered, Tells}

-- the key with a number opens the frame
opens-is : (told : List Entry) (tag : Tag) (frame : List ℕ) (i : Install) (m : ℕ)
    → number_in (keys told) i.sak ≡ Some m
    → is_right (map secret_octets (keys told)) tag frame m
    ≡ is_some (opened (secret_octets i.sak) tag frame)
opens-is told tag frame i m number = ap (is_opened tag frame) (numbered (keys told) i.sak m number)

pub right-under-its-key : (r : Run) (told : List Entry) (tag : Tag) (frame : List ℕ) (i : Install)
    → AreOurs r told → Tells told i → i.an ≡ tag.an → Opens i tag frame
    → ((j : Install) → In j (installs r) → Opens j tag frame → j.sak ≡ i.sak)
    → (m : ℕ) × (number_in (keys told) i.sak ≡ Some m) × (right_key told tag frame ≡ Some m)
right-under-its-key r told tag frame i ours tells an opens only =
    let k = is-known told tag.sci i tells in (
      k.0,
      k.1,
      find-only (is_right (map secret_octets (keys told)) tag frame) (known told tag.sci tag.an) k.0
          (subst (λ a. In k.0 (known told tag.sci a)) an k.2)
          (opens-is told tag frame i k.0 k.1 ∙ opens)
          (λ m there right.
          let h = known-key r told tag.sci tag.an m ours there in
          let same = only h.install h.there
          (sym (opens-is told tag frame h.install m h.number) ∙ right) in
          some-same (sym h.number ∙ ap (number_in (keys told)) same ∙ k.1)),
    )
