-- Document 01's runs as the program prints them. Reports: what the blocks lead to. Table: cases A to F and I.
pub mod Reports
pub mod Table
