-- By the setting. Assumes nothing.
use Rattle.checking.specs.Refusals.{place_off, place_on, place_from}
use Rattle.checking.proofs.check_place.Goals as goal

pub returns-in-Off : goal.returns-in-Off
returns-in-Off c = place_off _ c.in-Off.is

pub returns-in-On : goal.returns-in-On
returns-in-On c = place_on _ c.in-On.is

pub returns-in-From : goal.returns-in-From
returns-in-From c = place_from _ c.in-From.is c.check_named.ensures
