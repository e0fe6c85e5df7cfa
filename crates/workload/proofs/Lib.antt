mod Puttings
