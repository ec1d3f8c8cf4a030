-- What is answered to the text of a fact of a group.
use Rattle.std.specs.Prelude.{ℕ, ◌≡◌, ◌<◌, ◌⊎◌, ◌↔◌, Bool, true, false, List, Result, Ok, Err, IfOk, OnErr}
use Rattle.lan_core.specs.declared.fact.Fact.{Fact}
use Rattle.lan_core.specs.Run.{place}
use Rattle.transcript.specs.declared.fault.FactError.{FactError}
use Rattle.transcript.specs.declared.fault.FactError.TheVariants.{Unread, Memory}
use Rattle.transcript.specs.Naming.{most_named}
use Rattle.transcript.specs.Rendering.{IsOfFrame}
use Rattle.transcript_reader.specs.declared.group.Group.{Group}
use Rattle.transcript_reader.specs.Facts.{IsLife, IsLineIn, Names}

pub record IsRead (g : Group) (old : Names) (text : List ℕ) (new : Names) (r : Result Fact FactError)
    : Type 0 where
  pub read : IfOk r (λ own. IsLineIn g old text new own)
  pub found : (then : Names) (own : Fact) → IsLineIn g old text then own
      → IfOk r (λ answer. (answer ≡ own) × (new ≡ then))
  pub unread : (r ≡ Err Unread) ↔ ((then : Names) (own : Fact) → IsLineIn g old text then own → ⊥)
  pub memory : r ≡ Err Memory → (then : Names) × (own : Fact) × IsLineIn g old text then own
  pub frames : r ≡ Err Memory → (then : Names) (own : Fact) → IsLineIn g old text then own → IsOfFrame own
  pub kept : OnErr r (new ≡ old)
  pub still : IfOk r (λ own. (new ≡ old) ⊎ IsLife own)
  pub within : IfOk r (λ own. place own < most_named)

-- ---- a text that is read twice

abbrev pub is_unread : Result Fact FactError → Bool
is_unread (Err Unread) = true
is_unread _ = false

-- what was read first, if something was read then too
abbrev pub both : Result Fact FactError → Result Fact FactError → Result Fact FactError
both here (Ok there) = here
both here (Err fault) = Err fault
