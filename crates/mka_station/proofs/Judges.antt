-- Whether a frame counts, step by step.
use Rattle.std.proofs.Common.{◌≡◌, ◌∙◌, ℕ, not, List, take, Option, Some, None, nat_eq, refl, ap, sym}
use Rattle.std.specs.Prelude.{Result, Ok, Err}
use lib.Pointwise.{pointwise}
use Rattle.aes_cmac.specs.Cmac.{cmac}
use Rattle.mkpdu_codec.specs.declared.announcement.Announcement.{Announcement}
use Rattle.mkpdu_codec.specs.declared.spelled.Spelled.{Spelled}
use Rattle.mkpdu_codec.specs.Reading.{reading}
use Rattle.sak_exchange.proofs.Public.{by_test}
use Rattle.mka_station.specs.declared.verdict.DropReason.{DropReason}
use Rattle.mka_station.specs.Lives.{Setup}
use Rattle.mka_station.specs.Hearing.{judged, of_group}
use Rattle.mka_station.specs.inside.Turns.{IsRefused, fault_of}

pub judged-refused : (setup : Setup) (frame : List ℕ) (v : DropReason) → IsRefused frame v → Err v ≡ judged setup frame
unfolding judged
judged-refused setup frame v is = sym (rw (is.2, is.1) refl)

abbrev verdict-of : Option DropReason → Announcement → Result Announcement DropReason
verdict-of None a = Ok a
verdict-of (Some v) a = Err v

by-fault : (setup : Setup) (frame : List ℕ) (s : Spelled) → of_group setup frame s ≡ verdict-of (fault_of setup.ckn setup.ick s.announcement (take s.covered frame) s.check) s.announcement
by-fault setup frame s =
    by_test (not (pointwise nat_eq s.announcement.ckn setup.ckn))
    (λ e. rw e refl)
    (λ e. rw e (by_test (not (pointwise nat_eq s.check (cmac setup.ick (take s.covered frame)))) (λ f. rw f refl) (λ f. rw f refl)))

judged-read : (setup : Setup) (frame : List ℕ) (s : Spelled) → reading frame ≡ Ok s → judged setup frame ≡ of_group setup frame s
unfolding judged
judged-read setup frame s is = rw is refl

pub judged-fault : (setup : Setup) (frame : List ℕ) (s : Spelled) (v : DropReason) → reading frame ≡ Ok s → fault_of setup.ckn setup.ick s.announcement (take s.covered frame) s.check ≡ Some v → Err v ≡ judged setup frame
judged-fault setup frame s v is why = sym (judged-read setup frame s is ∙ by-fault setup frame s ∙ ap (λ o. verdict-of o s.announcement) why)

pub judged-right : (setup : Setup) (frame : List ℕ) (s : Spelled) → reading frame ≡ Ok s → fault_of setup.ckn setup.ick s.announcement (take s.covered frame) s.check ≡ None → Ok s.announcement ≡ judged setup frame
judged-right setup frame s is why = sym (judged-read setup frame s is ∙ by-fault setup frame s ∙ ap (λ o. verdict-of o s.announcement) why)
