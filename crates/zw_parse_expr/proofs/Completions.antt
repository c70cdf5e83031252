-- How each rule of the grammar can be completed, by its number: a text of it, a bound on the steps that reading the text takes, and
-- the terminals that then may stand first behind it.
use Rattle.std.proofs.Common.{List, [], ◌∷◌}
use Rattle.zw_grammar.specs.Completions.{Completion}

abbrev pub completions : List Completion
completions =
    record { text = (94 ∷ []); steps = 2; behind = (78 ∷ 85 ∷ 89 ∷ 91 ∷ 93 ∷ 103 ∷ []) } ∷
    record { text = (96 ∷ []); steps = 3; behind = (34 ∷ 76 ∷ 78 ∷ 85 ∷ 86 ∷ 88 ∷ 89 ∷ 91 ∷ 92 ∷ 93 ∷ 103 ∷ []) } ∷
    record { text = (95 ∷ []); steps = 3; behind = (34 ∷ []) } ∷
    record { text = (86 ∷ []); steps = 2; behind = (1 ∷ 6 ∷ 88 ∷ 99 ∷ []) } ∷
    record { text = []; steps = 1; behind = (93 ∷ []) } ∷
    record { text = []; steps = 1; behind = (93 ∷ []) } ∷
    record { text = []; steps = 1; behind = (99 ∷ []) } ∷
    record { text = []; steps = 1; behind = (6 ∷ 92 ∷ []) } ∷
    record { text = (95 ∷ 34 ∷ []); steps = 7; behind = (6 ∷ 92 ∷ []) } ∷
    record { text = []; steps = 1; behind = (6 ∷ 92 ∷ []) } ∷
    record { text = (99 ∷ []); steps = 9; behind = (76 ∷ 78 ∷ 85 ∷ 89 ∷ 91 ∷ 92 ∷ 93 ∷ 103 ∷ []) } ∷
    record { text = (99 ∷ []); steps = 6; behind = (76 ∷ 78 ∷ 85 ∷ 89 ∷ 91 ∷ 92 ∷ 93 ∷ 103 ∷ []) } ∷
    record { text = (91 ∷ 99 ∷ []); steps = 11; behind = (76 ∷ 78 ∷ 85 ∷ 89 ∷ 91 ∷ 92 ∷ 93 ∷ 103 ∷ []) } ∷
    record { text = (91 ∷ 99 ∷ []); steps = 11; behind = (76 ∷ 78 ∷ 85 ∷ 89 ∷ 91 ∷ 92 ∷ 93 ∷ 103 ∷ []) } ∷
    record { text = []; steps = 1; behind = (91 ∷ []) } ∷
    record { text = []; steps = 1; behind = (76 ∷ 78 ∷ 85 ∷ 89 ∷ 91 ∷ 92 ∷ 93 ∷ 103 ∷ []) } ∷
    record { text = []; steps = 1; behind = (76 ∷ 78 ∷ 85 ∷ 89 ∷ 91 ∷ 92 ∷ 93 ∷ 103 ∷ []) } ∷
    record { text = (91 ∷ []); steps = 4; behind = (76 ∷ 78 ∷ 85 ∷ 89 ∷ 91 ∷ 92 ∷ 93 ∷ 103 ∷ []) } ∷
    record { text = []; steps = 1; behind = (91 ∷ []) } ∷
    record { text = []; steps = 1; behind = (89 ∷ []) } ∷
    record { text = []; steps = 1; behind = (89 ∷ []) } ∷
    record { text = (99 ∷ []); steps = 3; behind = (76 ∷ 78 ∷ 85 ∷ 89 ∷ 91 ∷ 92 ∷ 93 ∷ 103 ∷ []) } ∷
    record { text = []; steps = 1; behind = (76 ∷ 78 ∷ 85 ∷ 89 ∷ 91 ∷ 92 ∷ 93 ∷ 103 ∷ []) } ∷
    record { text = (101 ∷ []); steps = 5; behind = (89 ∷ []) } ∷
    record { text = []; steps = 1; behind = (89 ∷ []) } ∷
    record { text = (92 ∷ 93 ∷ []); steps = 6; behind = (76 ∷ 78 ∷ 85 ∷ 89 ∷ 91 ∷ 92 ∷ 93 ∷ 103 ∷ []) } ∷
    record { text = []; steps = 1; behind = (92 ∷ []) } ∷
    record { text = []; steps = 1; behind = (92 ∷ []) } ∷
    record { text = (9 ∷ []); steps = 3; behind = (89 ∷ []) } ∷
    record { text = (96 ∷ []); steps = 6; behind = (76 ∷ 78 ∷ 85 ∷ 89 ∷ 91 ∷ 92 ∷ 93 ∷ 103 ∷ []) } ∷
    record { text = (92 ∷ 93 ∷ []); steps = 6; behind = (76 ∷ 78 ∷ 85 ∷ 89 ∷ 91 ∷ 92 ∷ 93 ∷ 103 ∷ []) } ∷
    record { text = (93 ∷ []); steps = 4; behind = (76 ∷ 78 ∷ 85 ∷ 89 ∷ 91 ∷ 92 ∷ 93 ∷ 103 ∷ []) } ∷
    record { text = (94 ∷ 93 ∷ []); steps = 23; behind = (76 ∷ 78 ∷ 85 ∷ 89 ∷ 91 ∷ 92 ∷ 93 ∷ 103 ∷ []) } ∷
    record { text = (93 ∷ []); steps = 20; behind = (76 ∷ 78 ∷ 85 ∷ 89 ∷ 91 ∷ 92 ∷ 93 ∷ 103 ∷ []) } ∷
    record { text = []; steps = 1; behind = (78 ∷ 85 ∷ 89 ∷ 91 ∷ 93 ∷ 103 ∷ []) } ∷
    record { text = (92 ∷ 93 ∷ []); steps = 6; behind = (78 ∷ 85 ∷ 89 ∷ 91 ∷ 93 ∷ 103 ∷ []) } ∷
    record { text = (93 ∷ []); steps = 4; behind = (78 ∷ 85 ∷ 89 ∷ 91 ∷ 93 ∷ 103 ∷ []) } ∷
    record { text = (94 ∷ 93 ∷ []); steps = 23; behind = (78 ∷ 85 ∷ 89 ∷ 91 ∷ 93 ∷ 103 ∷ []) } ∷
    record { text = (93 ∷ []); steps = 20; behind = (78 ∷ 85 ∷ 89 ∷ 91 ∷ 93 ∷ 103 ∷ []) } ∷
    record { text = []; steps = 1; behind = (93 ∷ []) } ∷
    record { text = []; steps = 1; behind = (93 ∷ []) } ∷
    record { text = []; steps = 1; behind = (93 ∷ []) } ∷
    record { text = []; steps = 1; behind = (93 ∷ []) } ∷
    record { text = (6 ∷ []); steps = 16; behind = (78 ∷ 85 ∷ 89 ∷ 91 ∷ 93 ∷ 103 ∷ []) } ∷
    record { text = []; steps = 1; behind = (78 ∷ 85 ∷ 89 ∷ 91 ∷ 93 ∷ 103 ∷ []) } ∷
    record { text = []; steps = 1; behind = (78 ∷ 85 ∷ 89 ∷ 91 ∷ 93 ∷ 103 ∷ []) } ∷
    record { text = []; steps = 1; behind = (78 ∷ 85 ∷ 89 ∷ 91 ∷ 93 ∷ 103 ∷ []) } ∷
    record { text = (6 ∷ []); steps = 16; behind = (91 ∷ []) } ∷
    record { text = []; steps = 1; behind = (91 ∷ []) } ∷
    record { text = []; steps = 1; behind = (91 ∷ []) } ∷
    record { text = []; steps = 1; behind = (91 ∷ []) } ∷
    record { text = []; steps = 1; behind = (78 ∷ 85 ∷ 89 ∷ 91 ∷ 93 ∷ 103 ∷ []) } ∷
    record { text = []; steps = 1; behind = (78 ∷ 85 ∷ 89 ∷ 91 ∷ 93 ∷ 103 ∷ []) } ∷
    record { text = []; steps = 1; behind = (78 ∷ 85 ∷ 89 ∷ 91 ∷ 93 ∷ 103 ∷ []) } ∷
    record { text = []; steps = 1; behind = (91 ∷ []) } ∷
    record { text = []; steps = 1; behind = (91 ∷ []) } ∷
    record { text = []; steps = 1; behind = (91 ∷ []) } ∷
    record { text = []; steps = 1; behind = (78 ∷ 85 ∷ 89 ∷ 91 ∷ 93 ∷ 103 ∷ []) } ∷
    record { text = (6 ∷ []); steps = 6; behind = (78 ∷ 85 ∷ 89 ∷ 91 ∷ 93 ∷ 103 ∷ []) } ∷
    record { text = []; steps = 1; behind = (91 ∷ []) } ∷
    record { text = (6 ∷ []); steps = 6; behind = (91 ∷ []) } ∷
    record { text = (6 ∷ []); steps = 5; behind = (78 ∷ 85 ∷ 89 ∷ 91 ∷ 93 ∷ 103 ∷ []) } ∷
    record { text = (91 ∷ 99 ∷ []); steps = 13; behind = (78 ∷ 85 ∷ 89 ∷ 91 ∷ 93 ∷ 103 ∷ []) } ∷
    record { text = []; steps = 5; behind = (78 ∷ 85 ∷ 89 ∷ 91 ∷ 93 ∷ 103 ∷ []) } ∷
    record { text = []; steps = 5; behind = (91 ∷ []) } ∷
    record { text = (6 ∷ []); steps = 5; behind = (91 ∷ []) } ∷
    record { text = (92 ∷ 93 ∷ []); steps = 7; behind = (78 ∷ 85 ∷ 89 ∷ 91 ∷ 93 ∷ 103 ∷ []) } ∷
    record { text = (31 ∷ 88 ∷ 6 ∷ 89 ∷ 6 ∷ []); steps = 42; behind = (78 ∷ 85 ∷ 89 ∷ 91 ∷ 93 ∷ 103 ∷ []) } ∷
    record { text = (31 ∷ 88 ∷ 6 ∷ 89 ∷ 6 ∷ []); steps = 43; behind = (78 ∷ 85 ∷ 89 ∷ 91 ∷ 93 ∷ 103 ∷ []) } ∷
    record { text = (31 ∷ 88 ∷ 6 ∷ 89 ∷ 6 ∷ []); steps = 43; behind = (78 ∷ 85 ∷ 89 ∷ 91 ∷ 93 ∷ 103 ∷ []) } ∷
    record { text = []; steps = 1; behind = (78 ∷ 85 ∷ 89 ∷ 91 ∷ 93 ∷ 103 ∷ []) } ∷
    record { text = []; steps = 1; behind = (78 ∷ 85 ∷ 89 ∷ 91 ∷ 93 ∷ 103 ∷ []) } ∷
    record { text = []; steps = 1; behind = (91 ∷ []) } ∷
    record { text = []; steps = 1; behind = (78 ∷ 85 ∷ 89 ∷ 91 ∷ 93 ∷ 103 ∷ []) } ∷
    record { text = (92 ∷ 93 ∷ []); steps = 7; behind = (91 ∷ []) } ∷
    record { text = (31 ∷ 88 ∷ 6 ∷ 89 ∷ 6 ∷ []); steps = 42; behind = (91 ∷ []) } ∷
    record { text = (31 ∷ 88 ∷ 6 ∷ 89 ∷ 6 ∷ []); steps = 43; behind = (91 ∷ []) } ∷
    record { text = (31 ∷ 88 ∷ 6 ∷ 89 ∷ 6 ∷ []); steps = 43; behind = (91 ∷ []) } ∷
    record { text = []; steps = 1; behind = (91 ∷ []) } ∷
    record { text = []; steps = 1; behind = (91 ∷ []) } ∷
    record { text = (92 ∷ 93 ∷ []); steps = 6; behind = (76 ∷ 78 ∷ 85 ∷ 89 ∷ 91 ∷ 92 ∷ 93 ∷ 103 ∷ []) } ∷
    record { text = (92 ∷ 93 ∷ []); steps = 6; behind = (78 ∷ 85 ∷ 89 ∷ 91 ∷ 93 ∷ 103 ∷ []) } ∷
    record { text = []; steps = 1; behind = (93 ∷ []) } ∷
    record { text = (92 ∷ 93 ∷ []); steps = 10; behind = (93 ∷ []) } ∷
    record { text = (85 ∷ []); steps = 17; behind = (93 ∷ []) } ∷
    record { text = []; steps = 15; behind = (85 ∷ []) } ∷
    record { text = (92 ∷ 93 ∷ []); steps = 8; behind = (93 ∷ []) } ∷
    record { text = (31 ∷ 88 ∷ 6 ∷ 89 ∷ 92 ∷ 93 ∷ []); steps = 35; behind = (93 ∷ []) } ∷
    record { text = (31 ∷ 88 ∷ 6 ∷ 89 ∷ 92 ∷ 93 ∷ []); steps = 35; behind = (93 ∷ []) } ∷
    record { text = (92 ∷ 93 ∷ []); steps = 11; behind = (93 ∷ []) } ∷
    record { text = (92 ∷ 93 ∷ []); steps = 8; behind = (93 ∷ []) } ∷
    record { text = (85 ∷ []); steps = 17; behind = (93 ∷ []) } ∷
    record { text = (92 ∷ 93 ∷ []); steps = 8; behind = (93 ∷ []) } ∷
    record { text = (31 ∷ 88 ∷ 6 ∷ 89 ∷ 6 ∷ []); steps = 53; behind = (85 ∷ []) } ∷
    record { text = (92 ∷ 93 ∷ []); steps = 9; behind = (93 ∷ []) } ∷
    record { text = (85 ∷ []); steps = 18; behind = (93 ∷ []) } ∷
    record { text = (92 ∷ 93 ∷ []); steps = 9; behind = (93 ∷ []) } ∷
    record { text = (85 ∷ []); steps = 2; behind = (93 ∷ []) } ∷
    record { text = []; steps = 2; behind = (93 ∷ []) } ∷
    record { text = (8 ∷ 92 ∷ 93 ∷ []); steps = 15; behind = (93 ∷ []) } ∷
    record { text = (6 ∷ []); steps = 18; behind = (85 ∷ 89 ∷ 93 ∷ []) } ∷
    record { text = []; steps = 1; behind = (85 ∷ 89 ∷ 93 ∷ []) } ∷
    record { text = (16 ∷ 88 ∷ 6 ∷ 89 ∷ []); steps = 21; behind = (6 ∷ 92 ∷ []) } ∷
    record { text = (31 ∷ 88 ∷ 6 ∷ 89 ∷ []); steps = 22; behind = (6 ∷ 92 ∷ []) } ∷
    record { text = []; steps = 1; behind = (6 ∷ 92 ∷ []) } ∷
    record { text = (15 ∷ 88 ∷ 89 ∷ 34 ∷ 34 ∷ []); steps = 8; behind = (6 ∷ 92 ∷ []) } ∷
    record { text = []; steps = 1; behind = (89 ∷ []) } ∷
    record { text = []; steps = 1; behind = (89 ∷ []) } ∷
    record { text = []; steps = 1; behind = (89 ∷ []) } ∷
    record { text = []; steps = 1; behind = (89 ∷ []) } ∷
    record { text = []; steps = 1; behind = (34 ∷ []) } ∷
    record { text = []; steps = 1; behind = (34 ∷ []) } ∷
    record { text = (95 ∷ []); steps = 6; behind = (34 ∷ []) } ∷
    record { text = (25 ∷ 88 ∷ 6 ∷ 89 ∷ 92 ∷ 93 ∷ []); steps = 25; behind = (76 ∷ 78 ∷ 85 ∷ 89 ∷ 91 ∷ 92 ∷ 93 ∷ 103 ∷ []) } ∷
    record { text = []; steps = 1; behind = (93 ∷ []) } ∷
    record { text = []; steps = 1; behind = (93 ∷ []) } ∷
    record { text = (8 ∷ 78 ∷ 6 ∷ []); steps = 24; behind = (93 ∷ []) } ∷
    record { text = (6 ∷ []); steps = 18; behind = (78 ∷ []) } ∷
    record { text = []; steps = 1; behind = (78 ∷ []) } ∷
    record { text = []; steps = 1; behind = (78 ∷ []) } ∷
    record { text = []; steps = 1; behind = (78 ∷ []) } ∷
    record { text = []; steps = 1; behind = (93 ∷ 103 ∷ []) } ∷
    record { text = []; steps = 1; behind = (93 ∷ 103 ∷ []) } ∷
    record { text = []; steps = 1; behind = (93 ∷ []) } ∷
    record { text = []; steps = 1; behind = (93 ∷ []) } ∷
    record { text = []; steps = 1; behind = (93 ∷ []) } ∷
    record { text = []; steps = 1; behind = (93 ∷ []) } ∷
    record { text = []; steps = 1; behind = (93 ∷ 103 ∷ []) } ∷
    record { text = (4 ∷ 92 ∷ 93 ∷ []); steps = 13; behind = (93 ∷ 103 ∷ []) } ∷
    record { text = (4 ∷ 92 ∷ 93 ∷ []); steps = 10; behind = (93 ∷ 103 ∷ []) } ∷
    record { text = (5 ∷ 96 ∷ 76 ∷ 6 ∷ 85 ∷ []); steps = 28; behind = (93 ∷ 103 ∷ []) } ∷
    record { text = (96 ∷ 76 ∷ 6 ∷ []); steps = 22; behind = (85 ∷ []) } ∷
    record { text = []; steps = 1; behind = (76 ∷ 93 ∷ []) } ∷
    record { text = []; steps = 1; behind = (92 ∷ []) } ∷
    record { text = (12 ∷ 14 ∷ 96 ∷ 88 ∷ 89 ∷ 99 ∷ 92 ∷ 93 ∷ []); steps = 28; behind = (93 ∷ 103 ∷ []) } ∷
    record { text = (18 ∷ 14 ∷ 96 ∷ 88 ∷ 89 ∷ 99 ∷ 92 ∷ 93 ∷ []); steps = 28; behind = (93 ∷ 103 ∷ []) } ∷
    record { text = (13 ∷ 14 ∷ 96 ∷ 88 ∷ 89 ∷ 99 ∷ []); steps = 21; behind = (85 ∷ []) } ∷
    record { text = (14 ∷ 96 ∷ 88 ∷ 89 ∷ 99 ∷ 92 ∷ 93 ∷ []); steps = 25; behind = (93 ∷ 103 ∷ []) } ∷
    record { text = (14 ∷ 96 ∷ 88 ∷ 89 ∷ 99 ∷ []); steps = 18; behind = (85 ∷ 92 ∷ []) } ∷
    record { text = (99 ∷ []); steps = 10; behind = (85 ∷ 92 ∷ []) } ∷
    record { text = []; steps = 1; behind = (89 ∷ []) } ∷
    record { text = []; steps = 1; behind = (89 ∷ []) } ∷
    record { text = (1 ∷ []); steps = 7; behind = (89 ∷ []) } ∷
    record { text = (1 ∷ []); steps = 4; behind = (89 ∷ []) } ∷
    record { text = []; steps = 6; behind = (89 ∷ []) } ∷
    record { text = (1 ∷ []); steps = 3; behind = (89 ∷ []) } ∷
    record { text = (104 ∷ []); steps = 2; behind = (92 ∷ []) } ∷
    record { text = (105 ∷ []); steps = 2; behind = (96 ∷ []) } ∷
    []
