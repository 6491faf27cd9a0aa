-- Small bodies and the trees that they spell; or the place of a first item that fits no form.
use Rattle.std.specs.Prelude.{◌≡◌, refl, codes}
use Rattle.c_parser.specs.ReadExpressions.{level, within}
use Rattle.c_parser.specs.ReadStatements.{rows_within, header_within, statement_level, braced_within, armed_within}
use Rattle.grammar_examples.specs.Shown.{items}

-- statements

example_0 : items (codes "int f() { ; a; { b; } {} }") ≡ codes "int f(){;a;{b;}{}}|"
unfolding level within rows_within header_within statement_level braced_within armed_within
example_0 = refl

example_1 : items (codes "int f() { break; continue; return; return a, b; }") ≡ codes "int f(){break;continue;return ;return (a,b);}|"
unfolding level within rows_within header_within statement_level braced_within armed_within
example_1 = refl

-- `else` at the nearest `if`

example_2 : items (codes "int f() { if (a) if (b) c; else d; }") ≡ codes "int f(){if a [if b [c;] else [d;]]}|"
unfolding level within rows_within header_within statement_level braced_within armed_within
example_2 = refl

example_3 : items (codes "int f() { if (a) { if (b) c; } else d; }") ≡ codes "int f(){if a [{if b [c;]}] else [d;]}|"
unfolding level within rows_within header_within statement_level braced_within armed_within
example_3 = refl

example_4 : items (codes "int f() { if (a) b; else if (c) d; else e; }") ≡ codes "int f(){if a [b;] else [if c [d;] else [e;]]}|"
unfolding level within rows_within header_within statement_level braced_within armed_within
example_4 = refl

example_5 : items (codes "int f() { if (a) while (b) if (c) d; else e; }") ≡ codes "int f(){if a [while b [if c [d;] else [e;]]]}|"
unfolding level within rows_within header_within statement_level braced_within armed_within
example_5 = refl

-- loops

example_6 : items (codes "int f() { while (a) b; do c; while (d); }") ≡ codes "int f(){while a [b;]do [c;] while d}|"
unfolding level within rows_within header_within statement_level braced_within armed_within
example_6 = refl

example_7 : items (codes "int f() { for (;;) ; for (a; b; c) d; }") ≡ codes "int f(){for ;; [;]for a;b;c [d;]}|"
unfolding level within rows_within header_within statement_level braced_within armed_within
example_7 = refl

example_8 : items (codes "int f() { for (int i = 0, j[2]; i < 3; i++) ; }") ≡ codes "int f(){for int i=0;int j[2];(i<3);(i++) [;]}|"
unfolding level within rows_within header_within statement_level braced_within armed_within
example_8 = refl

-- labels

example_9 : items (codes "int f() { l: m: a; }") ≡ codes "int f(){l:[m:[a;]]}|"
unfolding level within rows_within header_within statement_level braced_within armed_within
example_9 = refl

example_10 : items (codes "int f() { l: }  int g() { ; }") ≡ codes "syntax 01"
unfolding level within rows_within header_within statement_level braced_within armed_within
example_10 = refl

-- declarations in blocks

example_11 : items (codes "int f() { int a; a; unsigned b = a, c[2] = {1, 2,}; }") ≡ codes "int f(){int a;a;uint b=a;uint c[2]={1;2;};}|"
unfolding level within rows_within header_within statement_level braced_within armed_within
example_11 = refl

example_12 : items (codes "int f() { register const char c; auto __const long d; __extension__ int e; }") ≡ codes "int f(){char c;long d;int e;}|"
unfolding level within rows_within header_within statement_level braced_within armed_within
example_12 = refl

example_13 : items (codes "int f() { static int a; }") ≡ codes "syntax 01"
unfolding level within rows_within header_within statement_level braced_within armed_within
example_13 = refl

example_14 : items (codes "int f() { extern int a; }") ≡ codes "syntax 01"
unfolding level within rows_within header_within statement_level braced_within armed_within
example_14 = refl

example_15 : items (codes "int f() { int g(); }") ≡ codes "syntax 01"
unfolding level within rows_within header_within statement_level braced_within armed_within
example_15 = refl

example_16 : items (codes "int f() { if (a) int b; }") ≡ codes "syntax 01"
unfolding level within rows_within header_within statement_level braced_within armed_within
example_16 = refl

example_17 : items (codes "int f() { l: int b; }") ≡ codes "syntax 01"
unfolding level within rows_within header_within statement_level braced_within armed_within
example_17 = refl

example_18 : items (codes "int f() { void a; }") ≡ codes "syntax 01"
unfolding level within rows_within header_within statement_level braced_within armed_within
example_18 = refl

example_19 : items (codes "int f() { int a[2] = {}; }") ≡ codes "syntax 01"
unfolding level within rows_within header_within statement_level braced_within armed_within
example_19 = refl

example_20 : items (codes "int f() { int a[]; }") ≡ codes "syntax 01"
unfolding level within rows_within header_within statement_level braced_within armed_within
example_20 = refl

example_21 : items (codes "int f() { else a; }") ≡ codes "syntax 01"
unfolding level within rows_within header_within statement_level braced_within armed_within
example_21 = refl

example_22 : items (codes "int f() { for (static int i; ;) ; }") ≡ codes "syntax 01"
unfolding level within rows_within header_within statement_level braced_within armed_within
example_22 = refl

example_23 : items (codes "int f() { goto l; }") ≡ codes "syntax 01"
unfolding level within rows_within header_within statement_level braced_within armed_within
example_23 = refl

-- the arms of a `switch`

example_24 : items (codes "int f() { switch (a) { case 1: b; case 2: c; break; default: d; } }") ≡ codes "int f(){switch a{case 1:b;case 2:c;break;default:d;}}|"
unfolding level within rows_within header_within statement_level braced_within armed_within
example_24 = refl

example_25 : items (codes "int f() { switch (a) { } }") ≡ codes "int f(){switch a{}}|"
unfolding level within rows_within header_within statement_level braced_within armed_within
example_25 = refl

example_26 : items (codes "int f() { switch (a, b) { case c ? d : e: case 1: default: } }") ≡ codes "int f(){switch (a,b){case (c?d:e):case 1:default:}}|"
unfolding level within rows_within header_within statement_level braced_within armed_within
example_26 = refl

example_27 : items (codes "int f() { switch (a) { default: { int b; } l: c; case 2: ; } }") ≡ codes "int f(){switch a{default:{int b;}l:[c;]case 2:;}}|"
unfolding level within rows_within header_within statement_level braced_within armed_within
example_27 = refl

example_28 : items (codes "int f() { switch (a) { case 1: switch (b) { case 2: c; } default: d; } }") ≡ codes "int f(){switch a{case 1:switch b{case 2:c;}default:d;}}|"
unfolding level within rows_within header_within statement_level braced_within armed_within
example_28 = refl

example_29 : items (codes "int f() { if (a) switch (b) { case 1: if (c) d; else e; default: g; } else h; }") ≡ codes "int f(){if a [switch b{case 1:if c [d;] else [e;]default:g;}] else [h;]}|"
unfolding level within rows_within header_within statement_level braced_within armed_within
example_29 = refl

example_30 : items (codes "int f() { switch (a) { case 1: default: default: } }") ≡ codes "int f(){switch a{case 1:default:default:}}|"
unfolding level within rows_within header_within statement_level braced_within armed_within
example_30 = refl

-- only arms stand in it; an arm has statements, and no label of the `switch` stands in one of them

example_31 : items (codes "int f() { switch (a) { b; case 1: c; } }") ≡ codes "syntax 01"
unfolding level within rows_within header_within statement_level braced_within armed_within
example_31 = refl

example_32 : items (codes "int f() { switch (a) { case 1: int b; } }") ≡ codes "syntax 01"
unfolding level within rows_within header_within statement_level braced_within armed_within
example_32 = refl

example_33 : items (codes "int f() { switch (a) { case 1: { case 2: ; } } }") ≡ codes "syntax 01"
unfolding level within rows_within header_within statement_level braced_within armed_within
example_33 = refl

example_34 : items (codes "int f() { switch (a) { case 1: if (b) case 2: c; } }") ≡ codes "syntax 01"
unfolding level within rows_within header_within statement_level braced_within armed_within
example_34 = refl

example_35 : items (codes "int f() { switch (a) case 1: b; }") ≡ codes "syntax 01"
unfolding level within rows_within header_within statement_level braced_within armed_within
example_35 = refl

example_36 : items (codes "int f() { case 1: a; }") ≡ codes "syntax 01"
unfolding level within rows_within header_within statement_level braced_within armed_within
example_36 = refl

example_37 : items (codes "int f() { switch (a) { case 1, 2: ; } }") ≡ codes "syntax 01"
unfolding level within rows_within header_within statement_level braced_within armed_within
example_37 = refl

example_38 : items (codes "int f() { switch (a) { case b = 1: ; } }") ≡ codes "syntax 01"
unfolding level within rows_within header_within statement_level braced_within armed_within
example_38 = refl

example_39 : items (codes "int f() { switch (a) { case: ; } }") ≡ codes "syntax 01"
unfolding level within rows_within header_within statement_level braced_within armed_within
example_39 = refl

example_40 : items (codes "int f() { switch (a) { default ; } }") ≡ codes "syntax 01"
unfolding level within rows_within header_within statement_level braced_within armed_within
example_40 = refl

example_41 : items (codes "int f() { switch a { } }") ≡ codes "syntax 01"
unfolding level within rows_within header_within statement_level braced_within armed_within
example_41 = refl

example_42 : items (codes "int f() { default: ; } int g;") ≡ codes "syntax 01"
unfolding level within rows_within header_within statement_level braced_within armed_within
example_42 = refl

-- arrays of two dimensions

example_43 : items (codes "int f() { int a[2][3], b[c][d]; a[1][2] = 3; a[b[0][1]][a[1][1]]++; }") ≡ codes "int f(){int a[2][3];int b[c][d];(a[1][2]=3);(a[b[0][1]][a[1][1]]++);}|"
unfolding level within rows_within header_within statement_level braced_within armed_within
example_43 = refl

example_44 : items (codes "int f() { a[1][2][3]; }") ≡ codes "syntax 01"
unfolding level within rows_within header_within statement_level braced_within armed_within
example_44 = refl

example_45 : items (codes "int f() { int a[1][2][3]; }") ≡ codes "syntax 01"
unfolding level within rows_within header_within statement_level braced_within armed_within
example_45 = refl

example_46 : items (codes "int f() { int a[2][2] = {{1, 2}, {3}}, b[2][2] = {1, 2, 3}, c[2][1] = {{1,}, {2},}; }") ≡ codes "int f(){int a[2][2]={{1;2;}{3;}};int b[2][2]={1;2;3;};int c[2][1]={{1;}{2;}};}|"
unfolding level within rows_within header_within statement_level braced_within armed_within
example_46 = refl

example_47 : items (codes "int f() { int a[2][2] = {{1}, 2}; }") ≡ codes "syntax 01"
unfolding level within rows_within header_within statement_level braced_within armed_within
example_47 = refl

example_48 : items (codes "int f() { int a[2][2] = {1, {2}}; }") ≡ codes "syntax 01"
unfolding level within rows_within header_within statement_level braced_within armed_within
example_48 = refl

example_49 : items (codes "int f() { int a[2][2] = {{}}; }") ≡ codes "syntax 01"
unfolding level within rows_within header_within statement_level braced_within armed_within
example_49 = refl

example_50 : items (codes "int f() { int a[2][2] = {{{1}}}; }") ≡ codes "syntax 01"
unfolding level within rows_within header_within statement_level braced_within armed_within
example_50 = refl

example_51 : items (codes "int f() { int a[2][2] = {{1},,}; }") ≡ codes "syntax 01"
unfolding level within rows_within header_within statement_level braced_within armed_within
example_51 = refl
