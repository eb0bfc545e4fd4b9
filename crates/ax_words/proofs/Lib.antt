mod Routines
