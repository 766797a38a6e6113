pub mod BenchPrintouts
