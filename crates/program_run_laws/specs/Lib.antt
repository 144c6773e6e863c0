-- What a run of the program can come to: sound states, and the numbers 2, 5 to 13 and 16 to 18 (Numbers, Reaches); what accepted
-- reports lead to (Accepted); and that one text is printed (Once).
pub mod Numbers
pub mod Reaches
pub mod Accepted
pub mod Once
