use Rattle.houses.proofs.house.House.curve.Goals as goal

pub returns-in-Stateful : goal.returns-in-Stateful
returns-in-Stateful c = rw c.in-Stateful.is c.curve.ensures

pub returns-in-Plain : goal.returns-in-Plain
returns-in-Plain c = rw c.in-Plain.is c.curve-in-Plain.ensures
