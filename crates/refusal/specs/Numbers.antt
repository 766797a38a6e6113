-- The number that each refusal says (document 01, "What each number says, in checking order"; document 02, 19 and 20: change 1,
-- 26: change 9).
use Rattle.std.specs.Prelude.{ℕ, List, [], ◌∷◌}
use Rattle.refusal.specs.declared.Refusal.{Refusal}
use Rattle.refusal.specs.declared.Refusal.TheVariants.{Shape, Pair, Trailing, Field, Name, Width, Space, Command, Station, Matter, Late, Early, Post, Idle, Unrun, Count, Full, Output, Part, Charge, Arity}

abbrev pub number_of : Refusal → ℕ
number_of Shape = 1
number_of (Pair s) = 2
number_of Trailing = 3
number_of (Field s) = 4
number_of (Name s) = 5
number_of Width = 6
number_of Space = 7
number_of Command = 8
number_of Station = 9
number_of Matter = 10
number_of Late = 11
number_of Early = 12
number_of Post = 13
number_of Idle = 14
number_of Unrun = 15
number_of Count = 16
number_of Full = 17
number_of Output = 18
number_of Part = 19
number_of Charge = 20
number_of Arity = 26

-- "A refusal answers its number, the station for 2, 4 and 5"
abbrev pub stations_of : Refusal → List ℕ
stations_of Shape = []
stations_of (Pair s) = s ∷ []
stations_of Trailing = []
stations_of (Field s) = s ∷ []
stations_of (Name s) = s ∷ []
stations_of Width = []
stations_of Space = []
stations_of Command = []
stations_of Station = []
stations_of Matter = []
stations_of Late = []
stations_of Early = []
stations_of Post = []
stations_of Idle = []
stations_of Unrun = []
stations_of Count = []
stations_of Full = []
stations_of Output = []
stations_of Part = []
stations_of Charge = []
stations_of Arity = []
