-- How the report is written part by part.
use Rattle.std.specs.Prelude.{◌≡◌, ℕ, List, ◌++◌, Option, Result, Ok, Err}
use Rattle.lan_base.specs.Told.{after}
use Rattle.capture_audit.specs.declared.end.AuditEnd.{AuditEnd}
use Rattle.capture_audit.specs.declared.end.AuditEnd.TheVariants as ends

-- of all these octets some are written, and this text is written next
pub record IsWrittenOn (all : List ℕ) (held then : Option (List ℕ)) (text : List ℕ) : Type 0 where
  pub written : List ℕ
  pub written_is : then ≡ after held written
  pub lines : written ++ text ≡ all

-- octets were written with which these begin
pub record IsPartOf (all : List ℕ) (held then : Option (List ℕ)) : Type 0 where
  pub more : List ℕ
  pub rest : List ℕ
  pub parts : more ++ rest ≡ all
  pub written_is : then ≡ after held more

-- what writing up to here did
abbrev pub WritesOn : List ℕ → Option (List ℕ) → Option (List ℕ) → List ℕ
    → Result (Unit {0}) AuditEnd → Type 0
WritesOn all held then text (Ok done) = IsWrittenOn all held then text
WritesOn all held then text (Err ends.WriteFault) = IsPartOf all held then
WritesOn all held then text (Err ends.Memory) = IsPartOf all held then
WritesOn all held then text (Err _) = ⊥
