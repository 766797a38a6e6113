-- The scenario is posted where the plan is opened.
use Rattle.quote_setup.proofs.SettingUp.{unopened, sets_up}
use Rattle.quote_setup.proofs.set_up.Goals as goal

pub returns-in-Ok : goal.returns-in-Ok
returns-in-Ok c = sets_up c.leaf_width.ensures c.«open».ensures c.in-Ok.is c.load-stations.ensures c.post_all.ensures

pub returns-in-Err : goal.returns-in-Err
returns-in-Err c = unopened c.leaf_width.ensures c.«open».ensures c.in-Err.is
