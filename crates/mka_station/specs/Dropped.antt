-- A history without what was dropped (this profile's own rule: a dropped frame changes nothing).
use Rattle.std.specs.Prelude.{if◌then◌else◌, List, [], ◌∷◌}
use Rattle.mka_station.specs.Lives.{Member, Entry, ticked, sent, heard, installed, began}
use Rattle.mka_station.specs.Hearing.{outcome_of, is_accepted}

-- the history without the announcements that were dropped when they were heard
unfoldable pub without_dropped : Member → List Entry → List Entry
without_dropped m [] = []
without_dropped m (ticked ∷ p) = ticked ∷ without_dropped m p
without_dropped m (sent a ∷ p) = sent a ∷ without_dropped m p
without_dropped m (heard a ∷ p) =
    if is_accepted (outcome_of m p a) then heard a ∷ without_dropped m p
    else without_dropped m p
without_dropped m (installed r k ∷ p) = installed r k ∷ without_dropped m p
without_dropped m (began e ∷ p) = began e ∷ without_dropped m p
