-- That a line is to be refused where its fact is: what the laws of a taker of facts cite.
use Rattle.std.specs.Prelude.{ℕ, ◌≡◌, List, Option, Some, None, option_map}
use Rattle.aes_block.specs.declared.secret.Secret.{Secret}
use Rattle.lan_core.specs.declared.fact.Fact.{Fact}
use Rattle.lan_core.specs.declared.fact.Fact.TheVariants as shows
use Rattle.transcript_reader.specs.Facts.{Known, Tells}
use Rattle.transcript_check.specs.Judged.{sak_in}
use Rattle.transcript_check.specs.Standing.{IsDenied, no_epoch, refusal}
use Rattle.transcript_check.specs.declared.fault.CheckFault.{CheckFault}
use Rattle.transcript_check.specs.declared.fault.CheckFault.TheVariants.{Unread, Doubled, Orphan}

never-unread : (facts : List Fact) (fact : Fact) → refusal facts fact ≡ Some Unread → ⊥
never-unread facts (shows.Installed s id an epoch sak) is = go (sak_in facts s epoch) is
  where
    go : (o : Option Secret) → option_map (λ _. Doubled) o ≡ Some Unread → ⊥
    go None e = cc e
    go (Some k) e = cc e
never-unread facts (shows.Claimed s an epoch pn) is = go (sak_in facts s epoch) is
  where
    go : (o : Option Secret) → no_epoch o ≡ Some Unread → ⊥
    go None e = cc e
    go (Some k) e = cc e
never-unread facts _ is = cc is

-- it is read, and its fact is refused
pub fact-denies : (known : Known) (facts : List Fact) (octets : List ℕ) (after : Known)
    (fact : Fact) → Tells known octets after fact → (why : CheckFault)
    → refusal facts fact ≡ Some why → IsDenied known facts octets why
fact-denies known facts octets after fact reads Unread f = absurd (never-unread facts fact f)
fact-denies known facts octets after fact reads Doubled f = (after, fact, reads, f)
fact-denies known facts octets after fact reads Orphan f = (after, fact, reads, f)
