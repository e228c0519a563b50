-- Lines of the table, computed: the heading, case 1, a pattern that is refused, totals.
use mathlib.Core.Path.{◌≡◌, refl}
use Rattle.basics.specs.Text.{bytes, joined}
use Rattle.figures.specs.Numbers.{digits, width_up_to, width, decimal}
use Rattle.figures.specs.Share.{millionths, with_point, share}
use Rattle.table_lines.specs.Table.{plain, ended, heading, heading_line, columns, pattern_line, refused_columns}
use Rattle.table_lines.specs.Table.{refused_line, total_columns, total_line}

pub table_heading : heading_line ≡ bytes "seen\tshare\tunknown\tno\tpattern\n"
unfolding heading_line heading ended plain bytes joined
table_heading = refl

pub case_1_line : pattern_line (bytes "01 A") 1 1 3 6 ≡ bytes "1\t0.200000\t1\t3\t01 A\n"
unfolding pattern_line columns ended plain share with_point millionths bytes joined decimal width width_up_to digits
case_1_line = refl

pub refused_line_lem : refused_line (bytes "01\tA ->") 5 7 ≡ bytes "refused 5 at 7\t-\t-\t-\t01 A ->\n"
unfolding refused_line refused_columns ended plain bytes joined decimal width width_up_to digits
refused_line_lem = refl

pub total_line_lem : total_line 8 7 25 8 5 ≡ bytes "8\t-\t7\t25\ttotal patterns 8 events 5\n"
unfolding total_line total_columns ended plain bytes joined decimal width width_up_to digits
total_line_lem = refl
